use Rattle.covers.proofs.Rights.{row_right}
use Rattle.covers.proofs.rows_are_right.Goals as goal

pub returns : goal.returns
returns g c G sealed t s = row_right g.met.C.Cost.laws sealed t s
