-- Places of names, and elements by their places.
use Rattle.std.proofs.Common.{◌≡◌, ℕ, zero, suc, ◌+◌, ◌<◌, cond, ◌⊎◌, List, [], ◌∷◌, ◌++◌, map, length, Some, refl, ap, inl, inr, arith}
use Rattle.std.specs.List.{slice_get}
use Rattle.std.specs.Option.{option_map}
use Rattle.std.specs.Str.{bytes_eq}
use Rattle.grammar.specs.Drafting.{place_from}
use Rattle.grammar.specs.Lists.{Text}

module _ {A B : Type 0} (f : B → Text) (g : A → B) where
  pub place_map : (i : ℕ) (x : Text) (ys : List A) → place_from f i x (map g ys) ≡ place_from (λ y. f (g y)) i x ys
  unfolding place_from
  place_map i x [] = refl
  place_map i x (y ∷ ys) = ap (cond (bytes_eq (f (g y)) x) (Some i)) (place_map (i + 1) x ys)

module _ {A : Type 0} (f : A → Text) where
  pub place_below : (i : ℕ) (x : Text) (ys : List A) (j : ℕ) → place_from f i x ys ≡ Some j → j < i + length ys
  unfolding place_from
  place_below i x [] j h = grind arith
  place_below i x (y ∷ ys) j h =
      let more : place_from f (i + 1) x ys ≡ Some j → j < i + 1 + length ys = place_below (i + 1) x ys j in
      grind arith

module _ {A B : Type 0} (f : A → B) where
  pub nth_map : (xs : List A) (i : ℕ) → slice_get (map f xs) i ≡ option_map f (slice_get xs i)
  nth_map [] i = refl
  nth_map (x ∷ xs) zero = refl
  nth_map (x ∷ xs) (suc i) = nth_map xs i

module _ {A : Type 0} where
  -- what stands in a list with one more at the end stood there before, or is that one
  pub nth_push : (xs : List A) (x y : A) (i : ℕ) → slice_get (xs ++ x ∷ []) i ≡ Some y → (slice_get xs i ≡ Some y) ⊎ (x ≡ y)
  nth_push [] x y zero h = inr (cc)
  nth_push [] x y (suc i) h = let z : ◌≡◌ {A = ℕ} 0 1 = cc in absurd (omega arith)
  nth_push (z ∷ xs) x y zero h = inl h
  nth_push (z ∷ xs) x y (suc i) h = nth_push xs x y i h
