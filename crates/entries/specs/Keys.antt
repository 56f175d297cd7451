-- Entries of rows and ends of rows, as keys of a table.
use Rattle.std.specs.Prelude.{ℕ, ◌+◌, ◌*◌, ◌%◌, ◌^◌, Bool, ◌&&◌, Some, None, Option, ◌==◌}
use Rattle.std.specs.Option.{option_eq, option_map}
use Rattle.cost.specs.Model.{Model}
use Rattle.covers.specs.Held.{same_entry}
use Rattle.table.specs.Keys.{KeyModel}
use Rattle.entries.specs.declared.Choice.{Choice}
use Rattle.entries.specs.declared.Entry.{Entry}
use Rattle.entries.specs.declared.RowEnd.{RowEnd}

-- what stands in a row, as the row has it: the number of the rule and the cost
abbrev pub choice_of : {C : Type 0} → Choice C → ℕ × C
choice_of x = (x.rule.0, x.cost)

abbrev pub stands : {C : Type 0} → Option (Choice C) → Option (ℕ × C)
stands o = option_map choice_of o

-- and back
abbrev pub as_choice : {C : Type 0} → ℕ × C → Choice C
as_choice x = record { rule = record { 0 = x.0 }; cost = x.1 }

-- the entry of a row after the place b, at which x stands
abbrev pub entry_after : {C : Type 0} → Option ℕ → Option (ℕ × C) → Entry C
entry_after b x = record { before = b; choice = option_map as_choice x }

-- fillers
abbrev pub no_entry : {C : Type 0} → Entry C
no_entry = record { before = None; choice = None }

abbrev pub no_end : RowEnd
no_end = record { 0 = None }

-- whether two places are the same, where each may be none
abbrev pub same_link : Option ℕ → Option ℕ → Bool
same_link a b = option_eq (λ p q. p == q) a b

abbrev pub link_scatter : Option ℕ → ℕ
link_scatter None = 0
link_scatter (Some p) = (p + 1) % 2 ^ 32

-- whether the same stands at two places of rows
abbrev pub same_choice : {C : Type 0} → Model C → Option (Choice C) → Option (Choice C) → Bool
same_choice m x y = same_entry m (stands x) (stands y)

abbrev pub choice_scatter : {C : Type 0} → Model C → Option (Choice C) → ℕ
choice_scatter m None = 0
choice_scatter m (Some x) = (x.rule.0 % 65536 * 3266489917 % 2 ^ 32 + m.weight x.cost) % 2 ^ 32

-- entries are the same where the same entry is before them and the same stands there
abbrev pub entry_key : {C : Type 0} → Model C → KeyModel (Entry C)
entry_key m = record {
  same = λ x y. same_link x.before y.before && same_choice m x.choice y.choice;
  scatter = λ x. (link_scatter x.before * 2246822519 % 2 ^ 32 + choice_scatter m x.choice) % 2 ^ 32;
}

-- ends are the same where their places are
abbrev pub end_key : KeyModel RowEnd
end_key = record { same = λ x y. same_link x.0 y.0; scatter = λ x. link_scatter x.0 }
