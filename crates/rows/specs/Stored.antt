-- The rows that the stored entries and ends keep.
use Rattle.std.specs.Prelude.{ℕ, List, [], map, Some, None, Option}
use Rattle.covers.specs.Rows.{Row}
use Rattle.table.specs.declared.Slot.{Slot}
use Rattle.entries.specs.declared.Entry.{Entry}
use Rattle.entries.specs.declared.RowEnd.{RowEnd}
use Rattle.entries.specs.Walks.{back}

-- the keys in slots
abbrev pub keys_in : {K : Type 0} → List (Slot K) → List K
keys_in xs = map (λ s. s.key) xs

-- the entries of the row that ends here
abbrev pub row_back : {C : Type 0} → List (Entry C) → ℕ → Option RowEnd → Row C
row_back es w None = []
row_back es w (Some e) = back es w e.0 []
