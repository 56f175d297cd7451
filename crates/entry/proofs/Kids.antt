-- A count of kids is small.
use Rattle.std.proofs.Common.{◌≡◌, ℕ, ◌≤◌, List, [], ◌∷◌, Some, None, Ok, Option, sym, arith}
use Rattle.std.proofs.lemmas.Bool.Decides.{nat_tests}
use Rattle.form.specs.Numbers.{at_most, digits_of}
use Rattle.field.specs.Forms.{kids_form, or_fault}
use Rattle.field.specs.Lines.{first_of, take_by}
use Rattle.field.specs.declared.fault.FieldRefusal.{FieldRefusal}
use Rattle.field.specs.declared.fault.FieldRefusal.TheVariants.{BadNumber}

most : (m p k : ℕ) (e : FieldRefusal) (o : Option ℕ) → or_fault e p (at_most m o) ≡ Ok k → k ≤ m
most m p k e None h = let z : ◌≡◌ {A = ℕ} 0 1 = cc in absurd (omega arith)
most m p k e (Some n) h = grind (arith, nat_tests)

pub kids_small : (p k : ℕ) (fs : List (List ℕ)) → Ok k ≡ take_by kids_form p fs → k ≤ 2
unfolding take_by first_of
kids_small p k [] h = let z : ◌≡◌ {A = ℕ} 0 1 = grind arith in absurd (omega arith)
kids_small p k (x ∷ fs) h = most 2 p k BadNumber (digits_of 1 x) (sym h)
