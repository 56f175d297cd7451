use Rattle.std.proofs.Common.{◌≡◌, map}
use Rattle.row.specs.Kept.{base_gives}
use Rattle.row.specs.Views.{kept_of, applied}
use Rattle.row.proofs.Passing.{front}
use Rattle.row.proofs.kids.Step.take_bases.Given as goal

abbrev pub invariant-loop-i : goal.invariant-loop-i
invariant-loop-i g l = map kept_of l.work ≡ front g.K.Cost.Cost.model (base_gives g.K.Cost.Cost.model (applied g.K.KidRow.costs l.self.kids)) (map kept_of l.initial.work) l.self.rules.now l.i
