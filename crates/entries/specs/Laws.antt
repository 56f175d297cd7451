-- Entries are the same exactly where they are equal, and so are ends.
use Rattle.std.specs.Prelude.{◌≡◌, ℕ, Bool, true, false, cond, [], ◌∷◌, Some, None, Option, refl}
use Rattle.std.proofs.Common.{true≢false, sym, ap}
use Rattle.std.proofs.lemmas.Bool.{and_parts, and_from, eqb-true, eq-eqb}
use Rattle.cost.specs.Model.{Model, Laws}
use Rattle.covers.proofs.Relaxing.{some_is, none_some}
use Rattle.covers.proofs.Labels.{same_row_tells}
use Rattle.table.specs.Keys.{KeyLaws}
use Rattle.table.proofs.Places.{equal_laws}
use Rattle.entries.specs.declared.Choice.{Choice}
use Rattle.entries.specs.declared.Entry.{Entry}
use Rattle.entries.specs.declared.RowEnd.{RowEnd}
use Rattle.entries.specs.Keys.{stands, entry_key, end_key, same_link, same_choice}

pub link_own : (a : Option ℕ) → same_link a a ≡ true
link_own None = refl
link_own (Some p) = eq-eqb p p refl

pub link_tells : (a b : Option ℕ) → same_link a b ≡ true → a ≡ b
link_tells None None h = refl
link_tells None (Some q) h = absurd (true≢false (sym h))
link_tells (Some p) None h = absurd (true≢false (sym h))
link_tells (Some p) (Some q) h = ap (λ n. Some n) (eqb-true p q h)

pub end_tells : (a b : RowEnd) → end_key.same a b ≡ true → a ≡ b
end_tells a b h = let p = link_tells a.0 b.0 h in λ i. record { 0 = p i }

stands_tells : {C : Type 0} (x y : Option (Choice C)) → stands x ≡ stands y → x ≡ y
stands_tells None None e = refl
stands_tells None (Some y) e = absurd (none_some _ e)
stands_tells (Some x) None e = absurd (none_some _ (sym e))
stands_tells (Some x) (Some y) e = let k = some_is _ _ e in λ i. Some (record { rule = record { 0 = (k i).0 }; cost = (k i).1 })

cond_true_is : (b : Bool) → cond b true false ≡ true → b ≡ true
cond_true_is true h = refl
cond_true_is false h = h

module _ {C : Type 0} {m : Model C} (l : Laws m) where
  choice_own : (x : Option (Choice C)) → same_choice m x x ≡ true
  choice_own x = cond_true_is (same_choice m x x) ((same_row_tells l (stands x ∷ []) (stands x ∷ [])).1 refl)

  choice_tells : (x y : Option (Choice C)) → same_choice m x y ≡ true → x ≡ y
  choice_tells x y h =
      let e = (same_row_tells l (stands x ∷ []) (stands y ∷ [])).0 (ap (λ b. cond b true false) h) in
      stands_tells x y (cc)

  pub entry_own : (x : Entry C) → (entry_key m).same x x ≡ true
  entry_own x =
      and_from (same_link x.before x.before) (same_choice m x.choice x.choice) (link_own x.before) (choice_own x.choice)

  pub entry_tells : (x y : Entry C) → (entry_key m).same x y ≡ true → x ≡ y
  entry_tells x y h =
      let parts = and_parts (same_link x.before y.before) (same_choice m x.choice y.choice) h in
      let b = link_tells x.before y.before parts.0 in
      let c = choice_tells x.choice y.choice parts.1 in
      λ i. record { before = b i; choice = c i }

  pub entry_laws : KeyLaws (entry_key m)
  entry_laws = equal_laws (entry_key m) entry_own entry_tells
