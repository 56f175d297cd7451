-- What a field is read as, or why it is refused.
use Rattle.std.specs.Prelude.{ℕ, ◌+◌, cond, List, [], ◌∷◌, length, take, drop, ℤ, pos, Some, None, Ok, Err, Option, Result, nat_lt}
use Rattle.std.specs.Str.{bytes_eq}
use Rattle.name.specs.Texts.{name_of}
use Rattle.form.specs.Numbers.{kids_of, cost_of, cycles_of, payload_of}
use Rattle.field.specs.declared.fault.FieldFault.{FieldFault}
use Rattle.field.specs.declared.fault.FieldRefusal.{FieldRefusal}
use Rattle.field.specs.declared.fault.FieldRefusal.TheVariants.{BadName, BadNumber}
use Rattle.field.specs.declared.parts.Form.{Form}
use Rattle.field.specs.declared.parts.Form.TheVariants.{Name, Kids, Cost, Cycles, Kid, Item}
use Rattle.field.specs.Bytes.{place_of}
use Rattle.field.specs.Views.{FieldV, NameV, NumberV, DashV, ItemV}
use Rattle.name.specs.Outcomes.{and_then, map_ok}

-- a refusal at a place
abbrev pub fault : {A : Type 0} → FieldRefusal → ℕ → Result A FieldFault
fault k p = Err (record { place = p; refusal = k })

abbrev pub or_fault : {A : Type 0} → FieldRefusal → ℕ → Option A → Result A FieldFault
or_fault k p None = fault k p
or_fault k p (Some x) = Ok x

-- a name
abbrev pub name_form : ℕ → List ℕ → Result (List ℕ) FieldFault
name_form p xs = or_fault BadName p (name_of xs)

-- how many kids an operator takes
abbrev pub kids_form : ℕ → List ℕ → Result ℕ FieldFault
kids_form p xs = or_fault BadNumber p (kids_of xs)

-- a cost
abbrev pub cost_form : ℕ → List ℕ → Result ℕ FieldFault
cost_form p xs = or_fault BadNumber p (cost_of xs)

-- cycles
abbrev pub cycles_form : ℕ → List ℕ → Result ℕ FieldFault
cycles_form p xs = or_fault BadNumber p (cycles_of xs)

-- '-' alone for no kid, or a name
abbrev pub kid_form : ℕ → List ℕ → Result (Option (List ℕ)) FieldFault
kid_form p xs = cond (bytes_eq xs (45 ∷ [])) (Ok None) (map_ok Some (name_form p xs))

-- the name before the first '='
abbrev pub operator_form : ℕ → List ℕ → Result (List ℕ) FieldFault
operator_form p xs = name_form p (take (place_of 61 xs) xs)

-- the payload after the first '='; 0 where there is none
abbrev pub payload_form : ℕ → List ℕ → Result ℤ FieldFault
payload_form p xs =
    cond (nat_lt (place_of 61 xs) (length xs)) (or_fault BadNumber p (payload_of (drop (place_of 61 xs + 1) xs))) (Ok (pos 0))

-- an operator, and perhaps '=' and a payload
abbrev pub item_form : ℕ → List ℕ → Result FieldV FieldFault
item_form p xs = and_then (operator_form p xs) (λ op. map_ok (ItemV op) (payload_form p xs))

abbrev pub kid_v : Option (List ℕ) → FieldV
kid_v None = DashV
kid_v (Some xs) = NameV xs

-- a field read in a form
abbrev pub field_form : Form → ℕ → List ℕ → Result FieldV FieldFault
field_form Name p xs = map_ok NameV (name_form p xs)
field_form Kids p xs = map_ok NumberV (kids_form p xs)
field_form Cost p xs = map_ok NumberV (cost_form p xs)
field_form Cycles p xs = map_ok NumberV (cycles_form p xs)
field_form Kid p xs = map_ok kid_v (kid_form p xs)
field_form Item p xs = item_form p xs

-- a field read in a form, with its place
abbrev pub placed_form : Form → ℕ → List ℕ → Result (ℕ × FieldV) FieldFault
placed_form f p xs = map_ok (λ v. (p, v)) (field_form f p xs)

-- the name that a field says
abbrev pub name_in : ℕ → FieldV → Result (List ℕ) FieldFault
name_in p (NameV xs) = name_form p xs
name_in p (NumberV n) = fault BadName p
name_in p DashV = fault BadName p
name_in p (ItemV op z) = fault BadName p

-- the number that a field says
abbrev pub number_in : ℕ → FieldV → Result ℕ FieldFault
number_in p (NameV xs) = fault BadNumber p
number_in p (NumberV n) = Ok n
number_in p DashV = fault BadNumber p
number_in p (ItemV op z) = fault BadNumber p

-- the kid that a field says: a name, or none
abbrev pub kid_in : ℕ → FieldV → Result (Option (List ℕ)) FieldFault
kid_in p (NameV xs) = map_ok Some (name_form p xs)
kid_in p (NumberV n) = fault BadName p
kid_in p DashV = Ok None
kid_in p (ItemV op z) = fault BadName p
