use Rattle.std.proofs.lemmas.List.{map_push}
use Rattle.grammar.proofs.Fitting.{fit_rule}
use Rattle.grammar.proofs.declarations.Declarations.push_rule.Goals as goal

pub invariant_of-self-clause-fit : goal.invariant_of-self-clause-fit
invariant_of-self-clause-fit g c = simp (c.push_reserved.ensures.items, map_push) (fit_rule _ _ _ _ c.args.self.now.fit c.requires.1)

pub returns : goal.returns
returns g c = simp (c.push_reserved.ensures.items, map_push)
