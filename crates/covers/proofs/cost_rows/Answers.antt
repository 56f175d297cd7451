use Rattle.covers.proofs.CostRows.{cost_rows}
use Rattle.covers.proofs.cost_rows.Goals as goal

pub returns : goal.returns
returns g c = cost_rows g.C.Cost.model
