use Rattle.covers.proofs.Rights.{alike}
use Rattle.covers.proofs.equal_rows.Goals as goal

pub returns : goal.returns
returns g c G sealed t u s q e n = alike g.met.C.Cost.laws sealed t u s q e n
