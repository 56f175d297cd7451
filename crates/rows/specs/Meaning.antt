-- The rows held, and what each call does to them.
use Rattle.std.specs.Prelude.{◌≡◌, ℕ, ◌/◌, min, cond, List, [], length, ◌==◌, slice_index_or}
use Rattle.covers.specs.Rows.{Row}
use Rattle.table.specs.Memory.{SameSlice}
use Rattle.table.specs.Tables.{keys_of, room_of}
use Rattle.entries.specs.Walks.{rows_from}
use Rattle.rows.specs.declared.held.Rows.{Rows}

-- the rows held, in the order of putting: for each end that is stored, the row that ends there
abbrev pub rows_of : {C : Type 0} {cost eq keyed : _} → Rows C cost eq keyed → List (Row C)
rows_of v = rows_from v.width (keys_of v.entries) (keys_of v.ends)

-- how many rows of the width w there is room for in s places of ends and e places of entries
abbrev pub rows_in : ℕ → ℕ → ℕ → ℕ
rows_in s e w = cond (w == 0) s (min s (e / w))

-- how many rows there is room for
abbrev pub rows_room : {C : Type 0} {cost eq keyed : _} → Rows C cost eq keyed → ℕ
rows_room v = rows_in (room_of v.ends) (room_of v.entries) v.width

-- the same for the row x: none where it has another width
abbrev pub room_for_row : {C : Type 0} {cost eq keyed : _} → Rows C cost eq keyed → Row C → ℕ
room_for_row v x = cond (length x == v.width) (rows_room v) 0

-- the row of a label, which is empty where the label is not held
abbrev pub row_at : {C : Type 0} → List (Row C) → ℕ → Row C
row_at rows label = slice_index_or rows label []

-- The same memory: the same slices, of the same length, for rows of the same width.
pub record SameMemory {C : Type 0} {cost eq keyed : _} (v u : Rows C cost eq keyed) : Type 0 where
  pub entries : SameSlice v.entries.slots u.entries.slots
  pub ends : SameSlice v.ends.slots u.ends.slots
  pub width : u.width ≡ v.width
