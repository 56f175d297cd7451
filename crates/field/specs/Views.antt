-- What the fields that are read hold, without where it lies.
use Rattle.std.specs.Prelude.{ℕ, List, ℤ}
use Rattle.field.specs.declared.parts.Field.{Field}
use Rattle.field.specs.declared.parts.Field.TheVariants.{Name, Number, Dash, Item}
use Rattle.field.specs.declared.parts.Placed.{Placed}
use Rattle.field.specs.declared.parts.Part.{Part}

-- a field by the bytes that it borrows
pub data FieldV : Type 0 where
  NameV : List ℕ → FieldV
  NumberV : ℕ → FieldV
  DashV : FieldV
  ItemV : List ℕ → ℤ → FieldV

abbrev pub field_v : Field → FieldV
field_v (Name s) = NameV s.now
field_v (Number n) = NumberV n
field_v Dash = DashV
field_v (Item operator payload) = ItemV operator.now payload

-- a field with its place
abbrev pub placed_v : Placed → (ℕ × FieldV)
placed_v p = (p.place, field_v p.field)

-- a part of a line: its place and its bytes
abbrev pub part_v : Part → (ℕ × List ℕ)
part_v p = (p.place, p.text.now)
