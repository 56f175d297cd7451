-- The number of each refusal, and the field that it is about.
use Rattle.std.specs.Prelude.{ℕ}
use Rattle.field.specs.Refusals.{field_refusal_number}
use Rattle.field.specs.declared.fault.FieldFault.{FieldFault}
use Rattle.field.specs.declared.fault.FieldRefusal.{FieldRefusal}
use Rattle.field.specs.declared.fault.FieldRefusal.TheVariants.{Missing, BadName, BadNumber}
use Rattle.grammar.specs.Numbers.{draft_number}
use Rattle.grammar.specs.declared.refusal.Part.{Part}
use Rattle.grammar.specs.declared.refusal.Part.TheVariants.{Kids, Left, Operator, FirstKid, SecondKid, Source}
use Rattle.grammar.specs.declared.refusal.DraftRefusal.{DraftRefusal}
use Rattle.grammar.specs.declared.refusal.DraftRefusal.TheVariants.{Repeated, Undeclared, Unfit, Full, OwnSource, Unpriced}
use Rattle.fault.specs.declared.LineRefusal.TheVariants.{TooLong, Unknown, Miscounted}
use Rattle.fault.specs.declared.Refusal.{Refusal}
use Rattle.fault.specs.declared.Refusal.TheVariants.{File, Line, Field, Draft}
use Rattle.fault.specs.declared.LineFault.{LineFault}

abbrev pub refusal_number : Refusal → ℕ
refusal_number File = 6
refusal_number (Line TooLong) = 1
refusal_number (Line Unknown) = 2
refusal_number (Line Miscounted) = 3
refusal_number (Field e) = field_refusal_number e
refusal_number (Draft e) = draft_number e

-- where a part of a declaration or rule stands in its line
abbrev pub part_field : Part → ℕ
part_field Left = 2
part_field Kids = 3
part_field Operator = 3
part_field Source = 3
part_field FirstKid = 4
part_field SecondKid = 5

-- the field that a refusal is about; 0 for none
abbrev pub draft_field : DraftRefusal → ℕ
draft_field Repeated = 2
draft_field (Undeclared part) = part_field part
draft_field (Unfit part) = part_field part
draft_field Full = 0
draft_field OwnSource = 0
draft_field Unpriced = 0

abbrev pub refused_field : ℕ → FieldRefusal → ℕ
refused_field place Missing = 0
refused_field place BadName = place
refused_field place BadNumber = place

abbrev pub field_field : FieldFault → ℕ
field_field e = refused_field e.place e.refusal

-- a fault within a line
abbrev pub in_field : ℕ → Refusal → LineFault
in_field n e = record { field = n; refusal = e }

abbrev pub field_fault : FieldFault → LineFault
field_fault e = in_field (field_field e) (Field e.refusal)

abbrev pub draft_fault : DraftRefusal → LineFault
draft_fault e = in_field (draft_field e) (Draft e)

-- the line is over 8,192 bytes
abbrev pub too_long : LineFault
too_long = in_field 0 (Line TooLong)

-- no line of a machine file has this field
abbrev pub unknown : ℕ → LineFault
unknown n = in_field n (Line Unknown)

-- the wrong number of fields
abbrev pub miscounted : LineFault
miscounted = in_field 0 (Line Miscounted)
