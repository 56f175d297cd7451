use Rattle.std.proofs.Common.{map, ap}
use Rattle.grammar.specs.Views.{operator_of, rule_of}
use Rattle.grammar.proofs.Fitting.{fit_none, kids_none}
use Rattle.grammar.proofs.declarations.Declarations.new.Goals as goal

pub invariant_of-result-clause-kids : goal.invariant_of-result-clause-kids
invariant_of-result-clause-kids g c = kids_none _ (ap (map operator_of) c.in_ok-operators.ensures.items)

pub invariant_of-result-clause-fit : goal.invariant_of-result-clause-fit
invariant_of-result-clause-fit g c = fit_none _ _ _ (ap (map rule_of) c.in_ok-rules.ensures.items)
