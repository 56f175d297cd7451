-- The number of each refusal of a field.
use Rattle.std.specs.Prelude.{ℕ}
use Rattle.field.specs.declared.fault.FieldRefusal.{FieldRefusal}
use Rattle.field.specs.declared.fault.FieldRefusal.TheVariants.{Missing, BadName, BadNumber}

abbrev pub field_refusal_number : FieldRefusal → ℕ
field_refusal_number Missing = 3
field_refusal_number BadName = 4
field_refusal_number BadNumber = 5
