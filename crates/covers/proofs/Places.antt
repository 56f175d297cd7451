-- The different ones of a list, and their places.
use Rattle.std.proofs.Common.{◌≡◌, ℕ, zero, suc, ◌+◌, Bool, true, false, cond, ◌⊎◌, List, [], ◌∷◌, ◌++◌, length, Some, Decides, Option, sym, refl, ap, ◌∙◌, subst, inl, inr, true≢false, arith}
use Rattle.std.proofs.lemmas.List.{append_assoc}
use Rattle.std.specs.List.{slice_get}
use Rattle.covers.specs.Held.{place, put, put_all, different, In, Counts}
use Rattle.covers.proofs.Relaxing.{some_is, none_some}
use Rattle.covers.proofs.Nths.{nth_front, nth_back, nth_more}

-- ys is xs with more at its end
abbrev pub Begins : {A : Type 0} → List A → List A → Type 0
Begins {A} xs ys = (zs : List A) × (ys ≡ xs ++ zs)

pub begins_same : {A : Type 0} (xs : List A) → xs ≡ xs ++ []
begins_same [] = refl
begins_same (x ∷ xs) = ap (λ z. x ∷ z) (begins_same xs)

-- one after another
pub put_all_split : {A : Type 0} (same : A → A → Bool) (ys xs zs : List A) → put_all same ys (xs ++ zs) ≡ put_all same (put_all same ys xs) zs
put_all_split same ys [] zs = refl
put_all_split same ys (x ∷ xs) zs = put_all_split same (put same ys x) xs zs

module _ {A : Type 0} (same : A → A → Bool) (tells : (a b : A) → Decides (same a b) (a ≡ b)) where
  place_by : (y : A) (ys : List A) (x : A) (i : ℕ) (b : Bool) → same y x ≡ b → slice_get (y ∷ ys) i ≡ Some x → ((j : ℕ) → slice_get ys j ≡ Some x → slice_get ys (place same ys x) ≡ Some x) → slice_get (y ∷ ys) (cond b 0 (suc (place same ys x))) ≡ Some x
  place_by y ys x i true s e rest = ap {B = Option A} Some ((tells y x).0 s)
  place_by y ys x zero false s e rest = absurd (true≢false (sym ((tells y x).1 (some_is y x e)) ∙ s))
  place_by y ys x (suc i) false s e rest = rest i e

  -- what stands in the list stands at its place
  pub place_in : (xs : List A) (x : A) (i : ℕ) → slice_get xs i ≡ Some x → slice_get xs (place same xs x) ≡ Some x
  place_in [] x i e = absurd (none_some x e)
  place_in (y ∷ ys) x i e = place_by y ys x i (same y x) refl e (place_in ys x)

  pub place_one : (xs : List A) (x y : A) → In x xs → In y xs → place same xs x ≡ place same xs y → x ≡ y
  place_one xs x y h k e = some_is x y (sym (place_in xs x h.0 h.1) ∙ ap (slice_get xs) e ∙ place_in xs y k.0 k.1)

  front_by : (y : A) (ys zs : List A) (x : A) (i : ℕ) (b : Bool) → same y x ≡ b → slice_get (y ∷ ys) i ≡ Some x → ((j : ℕ) → slice_get ys j ≡ Some x → place same (ys ++ zs) x ≡ place same ys x) → ◌≡◌ {A = ℕ} (cond b 0 (suc (place same (ys ++ zs) x))) (cond b 0 (suc (place same ys x)))
  front_by y ys zs x i true s e rest = refl
  front_by y ys zs x zero false s e rest = absurd (true≢false (sym ((tells y x).1 (some_is y x e)) ∙ s))
  front_by y ys zs x (suc i) false s e rest = ap suc (rest i e)

  -- more at the end leaves the places
  pub place_front : (xs zs : List A) (x : A) (i : ℕ) → slice_get xs i ≡ Some x → place same (xs ++ zs) x ≡ place same xs x
  place_front [] zs x i e = absurd (none_some x e)
  place_front (y ∷ ys) zs x i e = front_by y ys zs x i (same y x) refl e (place_front ys zs x)

  -- putting one in
  abbrev pub PutIs : List A → A → List A → Type 0
  PutIs ys x zs = (In x ys × (zs ≡ ys)) ⊎ (((i : ℕ) → slice_get ys i ≡ Some x → ⊥) × (zs ≡ ys ++ x ∷ []))

  put_by : (y : A) (ys : List A) (x : A) (b : Bool) → same y x ≡ b → PutIs ys x (put same ys x) → PutIs (y ∷ ys) x (y ∷ cond b ys (put same ys x))
  put_by y ys x true s h = inl ((0, ap {B = Option A} Some ((tells y x).0 s)), refl)
  put_by y ys x false s (inl h) = inl ((suc h.0.0, h.0.1), ap (λ z. y ∷ z) h.1)
  put_by y ys x false s (inr h) = inr (absent, ap (λ z. y ∷ z) h.1)
    where
      absent : (i : ℕ) → slice_get (y ∷ ys) i ≡ Some x → ⊥
      absent zero e = true≢false (sym ((tells y x).1 (some_is y x e)) ∙ s)
      absent (suc i) e = h.0 i e

  pub put_is : (ys : List A) (x : A) → PutIs ys x (put same ys x)
  put_is [] x = inr (λ i e. none_some x e, refl)
  put_is (y ∷ ys) x = put_by y ys x (same y x) refl (put_is ys x)

  put_begins : (ys : List A) (x : A) → Begins ys (put same ys x)
  put_begins ys x = elim (put_is ys x) [ inl h ↦ ([], h.1 ∙ begins_same ys) | inr h ↦ (x ∷ [], h.1) ]

  pub put_all_begins : (ys xs : List A) → Begins ys (put_all same ys xs)
  put_all_begins ys [] = ([], begins_same ys)
  put_all_begins ys (x ∷ xs) =
      let h = put_begins ys x in
      let k = put_all_begins (put same ys x) xs in
      (h.0 ++ k.0, k.1 ∙ ap (λ z. z ++ k.0) h.1 ∙ append_assoc ys h.0 k.0)

  -- the counting goes on with each that is put in
  pub in_more : (xs : List A) (x : A) → In x (xs ++ x ∷ [])
  in_more xs x = (length xs, (let e : length xs ≡ length xs + 0 = omega arith in nth_back xs (x ∷ []) 0 (length xs) e))

  pub in_front : (xs zs : List A) (y : A) → In y xs → In y (xs ++ zs)
  in_front xs zs y h = (h.0, nth_front xs zs h.0 y h.1)

  pub in_split : (xs : List A) (x y : A) → In y (xs ++ x ∷ []) → In y xs ⊎ (x ≡ y)
  in_split xs x y h = elim (nth_more xs x h.0 y h.1) [ inl e ↦ inl (h.0, e) | inr e ↦ inr e.1 ]

  once_more : (ys : List A) (x : A) → ((i : ℕ) → slice_get ys i ≡ Some x → ⊥) → ((i j : ℕ) (y : A) → slice_get ys i ≡ Some y → slice_get ys j ≡ Some y → i ≡ j) → (i j : ℕ) (y : A) → slice_get (ys ++ x ∷ []) i ≡ Some y → slice_get (ys ++ x ∷ []) j ≡ Some y → i ≡ j
  once_more ys x absent once i j y a b = elim (nth_more ys x i y a) [
    | inl h ↦ elim (nth_more ys x j y b) [ inl k ↦ once i j y h k | inr k ↦ absurd (absent i (h ∙ ap {B = Option A} Some (sym k.1))) ]
    | inr h ↦ elim (nth_more ys x j y b) [ inl k ↦ absurd (absent j (k ∙ ap {B = Option A} Some (sym h.1))) | inr k ↦ h.0 ∙ sym k.0 ]
  ]

  counts_held : (xs ys : List A) (x : A) → Counts xs ys → In x ys → Counts (xs ++ x ∷ []) ys
  counts_held xs ys x c h = record {
    all = λ y k. elim (in_split xs x y k) [ inl e ↦ c.all y e | inr e ↦ subst (λ z. In z ys) e h ];
    only = λ y k. in_front xs (x ∷ []) y (c.only y k);
    once = c.once;
  }

  counts_new : (xs ys : List A) (x : A) → Counts xs ys → ((i : ℕ) → slice_get ys i ≡ Some x → ⊥) → Counts (xs ++ x ∷ []) (ys ++ x ∷ [])
  counts_new xs ys x c h = record {
    all = λ y k. elim (in_split xs x y k) [ inl e ↦ in_front ys (x ∷ []) y (c.all y e) | inr e ↦ subst (λ z. In z (ys ++ x ∷ [])) e (in_more ys x) ];
    only = λ y k. elim (in_split ys x y k) [ inl e ↦ in_front xs (x ∷ []) y (c.only y e) | inr e ↦ subst (λ z. In z (xs ++ x ∷ [])) e (in_more xs x) ];
    once = once_more ys x h c.once;
  }

  counts_put : (xs ys : List A) (x : A) → Counts xs ys → Counts (xs ++ x ∷ []) (put same ys x)
  counts_put xs ys x c = elim (put_is ys x) [
    | inl h ↦ subst (Counts (xs ++ x ∷ [])) (sym h.1) (counts_held xs ys x c h.0)
    | inr h ↦ subst (Counts (xs ++ x ∷ [])) (sym h.1) (counts_new xs ys x c h.0)
  ]

  counts_all : (xs ys zs : List A) → Counts xs ys → Counts (xs ++ zs) (put_all same ys zs)
  counts_all xs ys [] c = subst (λ z. Counts z ys) (begins_same xs) c
  counts_all xs ys (z ∷ zs) c = subst (λ w. Counts w (put_all same (put same ys z) zs)) (append_assoc xs (z ∷ []) zs) (counts_all (xs ++ z ∷ []) (put same ys z) zs (counts_put xs ys z c))

  pub counts : (xs : List A) → Counts xs (different same xs)
  counts xs = counts_all [] [] xs (record { all = λ x h. absurd (none_some x h.1); only = λ x h. absurd (none_some x h.1); once = λ i j y h k. absurd (none_some y h) })
