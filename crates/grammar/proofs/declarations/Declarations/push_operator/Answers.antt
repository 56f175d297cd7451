use Rattle.std.proofs.lemmas.List.{map_push}
use Rattle.grammar.specs.Views.{operator_of}
use Rattle.grammar.proofs.Fitting.{fit_operator, kids_push}
use Rattle.grammar.proofs.declarations.Declarations.push_operator.Goals as goal

pub invariant_of-self-clause-kids : goal.invariant_of-self-clause-kids
invariant_of-self-clause-kids g c = simp (c.push_reserved.ensures.items, map_push) (kids_push _ (operator_of c.args.operator) c.args.self.now.kids c.requires.1)

pub invariant_of-self-clause-fit : goal.invariant_of-self-clause-fit
invariant_of-self-clause-fit g c = simp (c.push_reserved.ensures.items, map_push) (fit_operator _ (operator_of c.args.operator) _ _ c.args.self.now.fit)

pub returns : goal.returns
returns g c = simp (c.push_reserved.ensures.items, map_push)
