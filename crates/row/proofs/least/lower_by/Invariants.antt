use Rattle.std.proofs.Common.{◌≡◌, ◌++◌, map, take, drop}
use Rattle.row.proofs.Lowering.{lower_place}
use Rattle.row.proofs.least.lower_by.Given as goal

abbrev pub invariant-loop-place : goal.invariant-loop-place
invariant-loop-place g l = l.work ≡ map (lower_place g.C.Cost.model l.least) (take l.place-index l.initial.work) ++ drop l.place-index l.initial.work
