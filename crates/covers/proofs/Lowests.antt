-- The least cost of a row, and costs from it on.
use Rattle.std.proofs.Common.{◌≡◌, ℕ, zero, suc, ◌≤◌, Bool, true, false, cond, List, [], ◌∷◌, map, Some, None, Option, Ordering, Less, Equal, Greater, sym, refl, ap, ◌∙◌, subst, true≢false, arith}
use Rattle.std.specs.Ordering.{is_lt}
use Rattle.cost.specs.Model.{Model, Laws}
use Rattle.covers.specs.Ranks.{at}
use Rattle.covers.specs.Rows.{lesser, least_in, or_zero, least_of_all, entry, row_of}
use Rattle.covers.proofs.Order.{Le, cost_order, le_refl, le_trans, lt_le}
use Rattle.covers.proofs.Relaxing.{some_is, none_some}
use Rattle.covers.proofs.Shifts.{cond_map, cmp_shift, diff_diff}

abbrev pub shift_all : {C : Type 0} → Model C → C → Option (C × ℕ × ℕ) → Option (C × ℕ × ℕ)
shift_all m z None = None
shift_all m z (Some x) = Some (m.diff x.0 z, x.1, x.2)

abbrev shift_one : {C : Type 0} → Model C → C → Option C → Option C
shift_one m z None = None
shift_one m z (Some c) = Some (m.diff c z)

is_less : (r : Ordering) → is_lt r ≡ true → r ≡ Less
is_less Less e = refl
is_less Equal e = absurd (true≢false (sym e))
is_less Greater e = absurd (true≢false (sym e))

-- the lesser is one of the two, and at most each
one_of : {C : Type 0} (P : C → Type 0) (b : Bool) (d c : C) → P d → P c → P (cond b d c)
one_of P true d c x y = x
one_of P false d c x y = y

module _ {C : Type 0} (m : Model C) (P : C → Type 0) where
  pub lesser_one : (c : C) (o : Option C) → P c → ((d : C) → o ≡ Some d → P d) → P (lesser m c o)
  lesser_one c None h k = h
  lesser_one c (Some d) h k = one_of P (is_lt (m.cmp d c)) d c (k d refl) h

  pub lowest_one : (os : List (Option (C × ℕ × ℕ))) → ((i : ℕ) (x : C × ℕ × ℕ) → at os i ≡ Some x → P x.0) → (f : C) → least_in m os ≡ Some f → P f
  lowest_one [] h f e = absurd (none_some f e)
  lowest_one (None ∷ os) h f e = lowest_one os (λ i. h (suc i)) f e
  lowest_one (Some x ∷ os) h f e = subst P (some_is (lesser m x.0 (least_in m os)) f e) (lesser_one x.0 (least_in m os) (h 0 x refl) (lowest_one os (λ i. h (suc i))))

pub has_lowest : {C : Type 0} (m : Model C) (os : List (Option (C × ℕ × ℕ))) (i : ℕ) (x : C × ℕ × ℕ) → at os i ≡ Some x → (f : C) × (least_in m os ≡ Some f)
has_lowest m [] i x e = absurd (none_some x e)
has_lowest m (None ∷ os) zero x e = absurd (none_some x e)
has_lowest m (Some y ∷ os) zero x e = (lesser m y.0 (least_in m os), refl)
has_lowest m (None ∷ os) (suc i) x e = has_lowest m os i x e
has_lowest m (Some y ∷ os) (suc i) x e = (lesser m y.0 (least_in m os), refl)

entries : {C : Type 0} (m : Model C) (z f g : C) (os : List (Option (C × ℕ × ℕ))) → ((i : ℕ) (x : C × ℕ × ℕ) → at os i ≡ Some x → entry m g (shift_all m z (Some x)) ≡ entry m f (Some x)) → map (entry m g) (map (shift_all m z) os) ≡ map (entry m f) os
entries m z f g [] h = refl
entries m z f g (None ∷ os) h = ap (λ y. None ∷ y) (entries m z f g os (λ i. h (suc i)))
entries m z f g (Some x ∷ os) h = λ j. h 0 x refl j ∷ entries m z f g os (λ i. h (suc i)) j

module _ {C : Type 0} {m : Model C} (l : Laws m) where
  lesser_first : (c : C) (o : Option C) → Le m.cmp (lesser m c o) c
  lesser_first c None = le_refl (cost_order l) c
  lesser_first c (Some d) = go (is_lt (m.cmp d c)) refl
    where
      go : (b : Bool) → is_lt (m.cmp d c) ≡ b → Le m.cmp (cond b d c) c
      go true e = lt_le (cost_order l) d c (is_less (m.cmp d c) e)
      go false e = le_refl (cost_order l) c

  lesser_rest : (c d : C) → Le m.cmp (lesser m c (Some d)) d
  lesser_rest c d = go (is_lt (m.cmp d c)) refl
    where
      go : (b : Bool) → is_lt (m.cmp d c) ≡ b → Le m.cmp (cond b d c) d
      go true e = le_refl (cost_order l) d
      go false e = λ k. true≢false (ap is_lt (sym k) ∙ e)

  pub lowest_below : (os : List (Option (C × ℕ × ℕ))) (i : ℕ) (x : C × ℕ × ℕ) (f : C) → at os i ≡ Some x → least_in m os ≡ Some f → Le m.cmp f x.0
  lowest_below [] i x f e h = absurd (none_some x e)
  lowest_below (None ∷ os) zero x f e h = absurd (none_some x e)
  lowest_below (Some y ∷ os) zero x f e h = subst (λ z. Le m.cmp z x.0) (some_is (lesser m y.0 (least_in m os)) f h) (subst (λ z. Le m.cmp (lesser m y.0 (least_in m os)) z.0) (some_is y x e) (lesser_first y.0 (least_in m os)))
  lowest_below (None ∷ os) (suc i) x f e h = lowest_below os i x f e h
  lowest_below (Some y ∷ os) (suc i) x f e h =
      let g = has_lowest m os i x e in
      let rest : Le m.cmp g.0 x.0 = lowest_below os i x g.0 e g.1 in
      let here : Le m.cmp (lesser m y.0 (least_in m os)) g.0 = subst (λ z. Le m.cmp (lesser m y.0 z) g.0) (sym g.1) (lesser_rest y.0 g.0) in
      subst (λ z. Le m.cmp z x.0) (some_is (lesser m y.0 (least_in m os)) f h) (le_trans (cost_order l) (lesser m y.0 (least_in m os)) g.0 x.0 here rest)

  module _ (z : C) (wz : m.weight z ≤ 140000000) where
    lesser_shift : (c : C) (o : Option C) → m.weight c ≤ 66000000 → ((d : C) → o ≡ Some d → m.weight d ≤ 66000000) → lesser m (m.diff c z) (shift_one m z o) ≡ m.diff (lesser m c o) z
    lesser_shift c None wc w = refl
    lesser_shift c (Some d) wc w =
        let wd = w d refl in
        ap (λ x. cond (is_lt x) (m.diff d z) (m.diff c z)) (cmp_shift l z wz d c (omega arith) (omega arith)) ∙ cond_map (λ x. m.diff x z) (is_lt (m.cmp d c)) d c

    lowest_shift : (os : List (Option (C × ℕ × ℕ))) → ((i : ℕ) (x : C × ℕ × ℕ) → at os i ≡ Some x → m.weight x.0 ≤ 66000000) → least_in m (map (shift_all m z) os) ≡ shift_one m z (least_in m os)
    lowest_shift [] h = refl
    lowest_shift (None ∷ os) h = lowest_shift os (λ i. h (suc i))
    lowest_shift (Some x ∷ os) h = ap {B = Option C} Some (ap (lesser m (m.diff x.0 z)) (lowest_shift os (λ i. h (suc i))) ∙ lesser_shift x.0 (least_in m os) (h 0 x refl) (lowest_one m (λ c. m.weight c ≤ 66000000) os (λ i. h (suc i))))

    pub row_shift : (os : List (Option (C × ℕ × ℕ))) → ((i : ℕ) (x : C × ℕ × ℕ) → at os i ≡ Some x → m.weight x.0 ≤ 66000000) → row_of m (map (shift_all m z) os) ≡ row_of m os
    row_shift os h = entries m z (least_of_all m os) (least_of_all m (map (shift_all m z) os)) os each
      where
        each : (i : ℕ) (x : C × ℕ × ℕ) → at os i ≡ Some x → entry m (least_of_all m (map (shift_all m z) os)) (shift_all m z (Some x)) ≡ entry m (least_of_all m os) (Some x)
        each i x e =
            let g = has_lowest m os i x e in
            let f = g.0 in
            let wf : m.weight f ≤ 66000000 = lowest_one m (λ c. m.weight c ≤ 66000000) os h f g.1 in
            let was : least_of_all m os ≡ f = ap (or_zero m) g.1 in
            let now : least_of_all m (map (shift_all m z) os) ≡ m.diff f z = ap (or_zero m) (lowest_shift os h ∙ ap (shift_one m z) g.1) in
            let same : m.diff (m.diff x.0 z) (least_of_all m (map (shift_all m z) os)) ≡ m.diff x.0 (least_of_all m os) = ap (m.diff (m.diff x.0 z)) now ∙ diff_diff l x.0 f z (h i x e) wf wz ∙ ap (m.diff x.0) (sym was) in
            (λ j. Some (x.2, same j))
