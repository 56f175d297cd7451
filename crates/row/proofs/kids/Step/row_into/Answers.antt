use Rattle.std.proofs.Common.{rules}
use Rattle.row.proofs.Choosing.{row_done}
use Rattle.row.proofs.kids.Step.row_into.Goals as goal

pub returns : goal.returns
returns g c = search (rules, row_done)
