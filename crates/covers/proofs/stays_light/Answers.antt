use Rattle.covers.proofs.Lightness.{light_tree}
use Rattle.covers.proofs.stays_light.Goals as goal

pub returns : goal.returns
returns g c G sealed t s = light_tree g.met.C.Cost.laws sealed t s
