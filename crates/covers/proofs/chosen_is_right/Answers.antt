use Rattle.covers.proofs.Rights.{chosen_right}
use Rattle.covers.proofs.chosen_is_right.Goals as goal

pub returns : goal.returns
returns g c G sealed t s n = chosen_right g.met.C.Cost.laws sealed t s n
