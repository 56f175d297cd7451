use Rattle.covers.proofs.RowSteps.{row_step1, row_step2}
use Rattle.covers.proofs.inner_rows.Goals as goal

pub returns : goal.returns
returns g c G sealed = (let l = g.met.C.Cost.laws in record { one = row_step1 l sealed; two = row_step2 l sealed })
