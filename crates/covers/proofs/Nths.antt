-- What stands at the places of lists that are put together.
use Rattle.std.proofs.Common.{◌≡◌, ℕ, zero, suc, ◌+◌, ◌<◌, ◌⊎◌, List, [], ◌∷◌, ◌++◌, map, length, Some, Option, refl, ap, inl, inr, arith}
use Rattle.std.specs.List.{slice_get}
use Rattle.covers.specs.Ranks.{at}
use Rattle.covers.proofs.Relaxing.{some_is, none_some}

pub nth_below : {A : Type 0} (xs : List A) (i : ℕ) (x : A) → slice_get xs i ≡ Some x → i < length xs
nth_below [] i x e = absurd (none_some x e)
nth_below (y ∷ xs) zero x e = omega arith
nth_below (y ∷ xs) (suc i) x e = (let h = nth_below xs i x e in omega arith)

pub nth_has : {A : Type 0} (xs : List A) (i : ℕ) → i < length xs → (x : A) × (slice_get xs i ≡ Some x)
nth_has [] i h = absurd (omega arith)
nth_has (x ∷ xs) zero h = (x, refl)
nth_has (x ∷ xs) (suc i) h = nth_has xs i (omega arith)

pub nth_front : {A : Type 0} (xs ys : List A) (j : ℕ) (x : A) → slice_get xs j ≡ Some x → slice_get (xs ++ ys) j ≡ Some x
nth_front [] ys j x e = absurd (none_some x e)
nth_front (y ∷ xs) ys zero x e = e
nth_front (y ∷ xs) ys (suc j) x e = nth_front xs ys j x e

pub nth_back : {A : Type 0} (xs ys : List A) (j q : ℕ) → q ≡ length xs + j → slice_get (xs ++ ys) q ≡ slice_get ys j
nth_back [] ys j q e = (let s : q ≡ j = omega arith in ap (slice_get ys) s)
nth_back (x ∷ xs) ys j zero e = absurd (omega arith)
nth_back (x ∷ xs) ys j (suc q) e = nth_back xs ys j q (omega arith)

-- a list with one more at its end
pub nth_more : {A : Type 0} (xs : List A) (y : A) (i : ℕ) (x : A) → slice_get (xs ++ y ∷ []) i ≡ Some x → (slice_get xs i ≡ Some x) ⊎ ((i ≡ length xs) × (y ≡ x))
nth_more [] y zero x e = inr (refl, some_is y x e)
nth_more [] y (suc i) x e = absurd (none_some x e)
nth_more (z ∷ xs) y zero x e = inl e
nth_more (z ∷ xs) y (suc i) x e = elim (nth_more xs y i x e) [ inl h ↦ inl h | inr h ↦ inr (ap suc h.0, h.1) ]

pub nth_map : {A B : Type 0} (f : A → B) (xs : List A) (i : ℕ) (x : A) → slice_get xs i ≡ Some x → slice_get (map f xs) i ≡ Some (f x)
nth_map f [] i x e = absurd (none_some x e)
nth_map {A} {B} f (y ∷ xs) zero x e = ap {B = Option B} (λ z. Some (f z)) (some_is y x e)
nth_map f (y ∷ xs) (suc i) x e = nth_map f xs i x e

-- what stands in a list with one more at its end
pub at_more : {A : Type 0} (xs : List (Option A)) (o : Option A) (i : ℕ) (x : A) → at (xs ++ o ∷ []) i ≡ Some x → (at xs i ≡ Some x) ⊎ ((i ≡ length xs) × (o ≡ Some x))
at_more [] o zero x e = inr (refl, e)
at_more [] o (suc i) x e = absurd (none_some x e)
at_more (z ∷ xs) o zero x e = inl e
at_more (z ∷ xs) o (suc i) x e = elim (at_more xs o i x e) [ inl h ↦ inl h | inr h ↦ inr (ap suc h.0, h.1) ]

pub at_front : {A : Type 0} (xs ys : List (Option A)) (i : ℕ) (x : A) → at xs i ≡ Some x → at (xs ++ ys) i ≡ Some x
at_front [] ys i x e = absurd (none_some x e)
at_front (z ∷ xs) ys zero x e = e
at_front (z ∷ xs) ys (suc i) x e = at_front xs ys i x e

pub at_last : {A : Type 0} (xs : List (Option A)) (o : Option A) → at (xs ++ o ∷ []) (length xs) ≡ o
at_last [] o = refl
at_last (z ∷ xs) o = at_last xs o

pub at_below : {A : Type 0} (xs : List (Option A)) (i : ℕ) (x : A) → at xs i ≡ Some x → i < length xs
at_below [] i x e = absurd (none_some x e)
at_below (y ∷ xs) zero x e = omega arith
at_below (y ∷ xs) (suc i) x e = (let h = at_below xs i x e in omega arith)
