-- The row of a label, as the row of a kid.
use Rattle.covers.specs.Rows.{Row}
use Rattle.rows.specs.declared.kid.HeldRow.{HeldRow}
use Rattle.rows.specs.Stored.{keys_in, row_back}

-- the row that ends there
abbrev pub row_of : {C : Type 0} → HeldRow C → Row C
row_of k = row_back (keys_in k.entries.now) k.width k.end
