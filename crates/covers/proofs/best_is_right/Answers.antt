use Rattle.covers.proofs.Rights.{right}
use Rattle.covers.proofs.best_is_right.Goals as goal

pub returns : goal.returns
returns g c G sealed t s n = right g.met.C.Cost.laws sealed t s n
