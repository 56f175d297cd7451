use Rattle.std.proofs.Common.{rules}
use Rattle.automaton.proofs.Meaning.{automaton_started}
use Rattle.automaton.proofs.labeller.AutomatonLabeller.start.Goals as goal

pub returns-clause-means : goal.returns-clause-means
returns-clause-means g c μ h = automaton_started g.C.Cost.model c.args.self.now μ h _ (search rules) (λ k l. search rules)
