use Rattle.std.proofs.Common.{rules}
use Rattle.plain.proofs.Labelling.{plain_started}
use Rattle.plain.proofs.labeller.PlainLabeller.start.Goals as goal

pub returns-clause-emptied : goal.returns-clause-emptied
returns-clause-emptied g c = search rules

pub returns-clause-means : goal.returns-clause-means
returns-clause-means g c μ h = plain_started c.args.self.now μ h _ (returns-clause-emptied g c)
