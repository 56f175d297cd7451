use Rattle.std.proofs.Common.{◌+◌, ◌≤◌, length, take}
use Rattle.row.specs.Views.{row_in}
use Rattle.table.specs.Memory.{SameSlice}
use Rattle.table.specs.Tables.{keys_of, room_of}
use Rattle.rows.proofs.Laying.{Laid}
use Rattle.rows.proofs.walks.lay_row.Given as goal

abbrev pub invariant-loop-work : goal.invariant-loop-work
invariant-loop-work g l =
    SameSlice l.initial.entries.slots l.entries.slots
    × (length (keys_of l.initial.entries) + length l.row ≤ room_of l.initial.entries → Laid g.C.Cost.model (keys_of l.initial.entries) (keys_of l.entries) (take l.work-index (row_in l.row)) l.end)
