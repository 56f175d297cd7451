use Rattle.std.proofs.Common.{◌≡◌, take, Some, None}
use Rattle.row.specs.Views.{row_in}
use Rattle.table.specs.Tables.{keys_of}
use Rattle.entries.specs.Walks.{walk}
use Rattle.rows.proofs.walks.end_of.Given as goal

abbrev pub invariant-loop-work : goal.invariant-loop-work
invariant-loop-work g l = walk g.C.Cost.model (keys_of l.entries) None (take l.work-index (row_in l.row)) ≡ Some l.end
