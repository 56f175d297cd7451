use Rattle.std.proofs.Common.{map}
use Rattle.grammar.specs.Views.{rule_of}
use Rattle.row.specs.Views.{kept_of, applied}
use Rattle.row.proofs.Choosing.{ChosenTo}
use Rattle.row.proofs.kids.Step.choose_rules.Given as goal

abbrev pub invariant-loop-n : goal.invariant-loop-n
invariant-loop-n g l = ChosenTo g.K.Cost.Cost.model (map rule_of l.self.rules.now) (applied g.K.KidRow.costs l.self.kids) (map kept_of l.initial.work) l.n (map kept_of l.work)
