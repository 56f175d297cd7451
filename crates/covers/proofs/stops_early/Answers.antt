use Rattle.covers.proofs.Closure.{stops_early}
use Rattle.covers.proofs.stops_early.Goals as goal

pub returns : goal.returns
returns g c = stops_early g.C.Cost.model
