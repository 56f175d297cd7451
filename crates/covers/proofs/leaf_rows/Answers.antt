use Rattle.covers.proofs.RowSteps.{row_step0}
use Rattle.covers.proofs.leaf_rows.Goals as goal

pub returns : goal.returns
returns g c G sealed op p = row_step0 g.met.C.Cost.laws sealed op p
