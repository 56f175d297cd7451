use Rattle.plain.proofs.Labelling.{plain_label}
use Rattle.plain.proofs.labeller.PlainLabeller.label.Goals as goal

pub returns : goal.returns
returns g c μ h = plain_label c.args.self.now μ h c.args.node.0
