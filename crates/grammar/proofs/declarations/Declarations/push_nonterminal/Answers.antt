use Rattle.std.proofs.lemmas.List.{map_push}
use Rattle.grammar.proofs.Fitting.{fit_nonterminal}
use Rattle.grammar.proofs.declarations.Declarations.push_nonterminal.Goals as goal

pub invariant_of-self-clause-fit : goal.invariant_of-self-clause-fit
invariant_of-self-clause-fit g c = simp (← c.push_reserved.ensures.len) at (fit_nonterminal _ _ _ c.args.self.now.fit)

pub returns : goal.returns
returns g c = simp (c.push_reserved.ensures.items, map_push)
