use Rattle.std.proofs.Common.{◌≡◌, false, map}
use Rattle.row.specs.Kept.{chain_gives}
use Rattle.row.specs.Views.{kept_of}
use Rattle.row.proofs.Passing.{front}
use Rattle.row.proofs.rounds.round.Given as goal

abbrev pub invariant-loop-i : goal.invariant-loop-i
invariant-loop-i g l = (map kept_of l.work ≡ front g.C.Cost.model (chain_gives g.C.Cost.model) (map kept_of l.initial.work) l.rules l.i) × (l.changed ≡ false → l.work ≡ l.initial.work)
