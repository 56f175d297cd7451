-- The place of the first in a list that is the same, or none.
use Rattle.std.proofs.Common.{◌≡◌, ℕ, suc, ◌<◌, ◌≤◌, Bool, true, false, cond, ltb, List, [], ◌∷◌, ◌++◌, length, Some, None, Option, sym, refl, ap, ◌∙◌, ⊎_elim, arith}
use Rattle.std.proofs.lemmas.Bool.{cases_lt, lt-ltb, le-ltb}
use Rattle.std.specs.Option.{option_map}
use Rattle.covers.specs.Held.{In, place, put}
use Rattle.covers.proofs.Relaxing.{none_some}
use Rattle.entries.specs.Walks.{seen}

-- the place p, where it is below n
abbrev within : ℕ → ℕ → Option ℕ
within p n = cond (ltb p n) (Some p) None

within_suc : (p n : ℕ) → within (suc p) (suc n) ≡ option_map suc (within p n)
within_suc p n =
    ⊎_elim
    (λ (h : p < n).
    let k : suc p < suc n = omega arith in
    rw (lt-ltb p n h, lt-ltb (suc p) (suc n) k))
    (λ (h : n ≤ p).
    let k : suc n ≤ suc p = omega arith in
    rw (le-ltb p n h, le-ltb (suc p) (suc n) k))
    (cases_lt p n)

within_first : (b : Bool) (p n : ℕ) → within (cond b 0 (suc p)) (suc n) ≡ cond b (Some 0) (option_map suc (within p n))
within_first true p n = let k : 0 < suc n = omega arith in rw (lt-ltb 0 (suc n) k)
within_first false p n = within_suc p n

module _ {A : Type 0} (same : A → A → Bool) where
  -- the first of the list, or else a place of the rest
  pub seen_first : (y : A) (ys : List A) (x : A) → seen same (y ∷ ys) x ≡ cond (same y x) (Some 0) (option_map suc (seen same ys x))
  seen_first y ys x = within_first (same y x) (place same ys x) (length ys)

  pub seen_none : (ys : List A) (x : A) → ((y : A) → In y ys → same y x ≡ false) → seen same ys x ≡ None
  seen_none [] x h = refl
  seen_none (y ∷ ys) x h =
      seen_first y ys x ∙ rw (h y (0, refl), seen_none ys x (λ z k. h z (suc k.0, k.1)))

  mapped_none : (o : Option ℕ) → option_map suc o ≡ None → o ≡ None
  mapped_none None e = refl
  mapped_none (Some i) e = absurd (none_some _ (sym e))

  put_by_none : (y : A) (ys : List A) (x : A) (b : Bool) → cond b (Some 0) (option_map suc (seen same ys x)) ≡ None
      → (seen same ys x ≡ None → put same ys x ≡ ys ++ x ∷ [])
      → y ∷ cond b ys (put same ys x) ≡ y ∷ (ys ++ x ∷ [])
  put_by_none y ys x true e rest = absurd (none_some _ (sym e))
  put_by_none y ys x false e rest = ap (λ z. y ∷ z) (rest (mapped_none (seen same ys x) e))

  -- one that is not in the list is put at its end
  pub put_unseen : (ys : List A) (x : A) → seen same ys x ≡ None → put same ys x ≡ ys ++ x ∷ []
  put_unseen [] x e = refl
  put_unseen (y ∷ ys) x e = put_by_none y ys x (same y x) (sym (seen_first y ys x) ∙ e) (put_unseen ys x)

  put_by_some : (y : A) (ys : List A) (x : A) (b : Bool) (i : ℕ) → cond b (Some 0) (option_map suc (seen same ys x)) ≡ Some i
      → ((j : ℕ) → seen same ys x ≡ Some j → put same ys x ≡ ys)
      → y ∷ cond b ys (put same ys x) ≡ y ∷ ys
  put_by_some y ys x true i e rest = refl
  put_by_some y ys x false i e rest = ap (λ z. y ∷ z) (by (seen same ys x) refl)
    where
      by : (o : Option ℕ) → seen same ys x ≡ o → put same ys x ≡ ys
      by None q = absurd (none_some i (sym (ap (option_map suc) q) ∙ e))
      by (Some j) q = rest j q

  -- one that is in the list leaves it
  pub put_seen : (ys : List A) (x : A) (i : ℕ) → seen same ys x ≡ Some i → put same ys x ≡ ys
  put_seen [] x i e = absurd (none_some i e)
  put_seen (y ∷ ys) x i e = put_by_some y ys x (same y x) i (sym (seen_first y ys x) ∙ e) (put_seen ys x)
