use Rattle.std.proofs.Common.{◌≡◌, ◌-◌, ◌≤◌, map, length}
use Rattle.grammar.specs.Views.{rule_of}
use Rattle.row.specs.Kept.{round_of, times}
use Rattle.row.specs.Views.{kept_of}
use Rattle.row.proofs.rounds.run_rounds.Given as goal

abbrev pub invariant-rounds : goal.invariant-rounds
invariant-rounds g l = (l.counter - 1 ≤ length l.initial.work - 1) × (map kept_of l.work ≡ times (round_of g.C.Cost.model (map rule_of l.rules)) (l.counter - 1) (map kept_of l.initial.work))
