use Rattle.std.proofs.Common.{rules}
use Rattle.row.proofs.Choosing.{best_done}
use Rattle.row.proofs.kids.Step.best_into.Goals as goal

pub returns : goal.returns
returns g c = search (rules, best_done)
