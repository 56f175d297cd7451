-- Reading the next of the fields that are left.
use Rattle.std.specs.Prelude.{ℕ, List, [], ◌∷◌, Ok, Result}
use Rattle.field.specs.declared.fault.FieldFault.{FieldFault}
use Rattle.field.specs.declared.fault.FieldRefusal.TheVariants.{Missing}
use Rattle.field.specs.Forms.{fault}
use Rattle.name.specs.Outcomes.{and_then}

-- the first of the fields that are left, which has the place p
unfoldable pub first_of : ℕ → List (List ℕ) → Result (ℕ × List ℕ) FieldFault
first_of p [] = fault Missing p
first_of p (x ∷ xs) = Ok (p, x)

-- the first of the fields that are left, read in a form
unfoldable pub take_by : {A : Type 0} → (ℕ → List ℕ → Result A FieldFault) → ℕ → List (List ℕ) → Result A FieldFault
take_by f p fs = and_then (first_of p fs) (λ q. f q.0 q.1)
