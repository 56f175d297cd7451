use Rattle.covers.proofs.Closure.{closes}
use Rattle.covers.proofs.chains_close.Goals as goal

pub returns : goal.returns
returns g c G sealed b long small = closes g.met.C.Cost.laws sealed b small long
