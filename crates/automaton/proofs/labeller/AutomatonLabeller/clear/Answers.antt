use Rattle.std.proofs.Common.{rules}
use Rattle.automaton.proofs.Meaning.{automaton_cleared}
use Rattle.automaton.proofs.labeller.AutomatonLabeller.clear.Goals as goal

pub returns-clause-lived : goal.returns-clause-lived
returns-clause-lived g c h l = (let begun = c.start.ensures.lived h l in search rules)

pub returns-clause-means : goal.returns-clause-means
returns-clause-means g c μ h = automaton_cleared g.C.Cost.model c.args.self.now μ h _ (search rules) (returns-clause-lived g c)
