use Rattle.nodes.proofs.Marking.{mark_sets}
use Rattle.nodes.proofs.mark.Goals as goal

pub returns-then-kid-places : goal.returns-then-kid-places
returns-then-kid-places c = mark_sets c.args.places.now c.args.kid.0 _ c.if-kid-places.true
