-- A write to each place in turn.
use Rattle.std.proofs.Common.{◌≡◌, ℕ, zero, suc, ◌+◌, List, [], ◌∷◌, get_or, set, refl, ap, ◌∙◌, arith}

module _ {A : Type 0} (f : ℕ → A → A) where
  -- f done to the first i of the places, the first of which has the number n
  abbrev pub upto : ℕ → ℕ → List A → List A
  upto n zero xs = xs
  upto n (suc i) [] = []
  upto n (suc i) (x ∷ xs) = f n x ∷ upto (suc n) i xs

  pub upto_at : (n i : ℕ) (xs : List A) (d : A) → get_or (upto n i xs) i d ≡ get_or xs i d
  upto_at n zero xs d = refl
  upto_at n (suc i) [] d = refl
  upto_at n (suc i) (x ∷ xs) d = upto_at (suc n) i xs d

  pub upto_set : (n i : ℕ) (xs : List A) (d : A) → set (upto n i xs) i (f (n + i) (get_or xs i d)) ≡ upto n (suc i) xs
  upto_set n zero [] d = refl
  upto_set n (suc i) [] d = refl
  upto_set n zero (x ∷ xs) d = (let e : n + 0 ≡ n = omega arith in ap (λ k. f k x ∷ xs) e)
  upto_set n (suc i) (x ∷ xs) d =
      let e : n + suc i ≡ suc n + i = omega arith in
      λ j. f n x ∷ (ap (λ k. set (upto (suc n) i xs) i (f k (get_or xs i d))) e ∙ upto_set (suc n) i xs d) j
