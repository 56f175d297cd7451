-- A part, its mark and what follows.
use Rattle.std.proofs.Common.{◌≡◌, ℕ, Bool, suc, ◌+◌, ◌≤◌, cond, eqb, ltb, leb, List, [], ◌∷◌, length, take, drop, refl, ap, arith, length-drop}
use Rattle.std.proofs.lemmas.List.{drop-drop}
use Rattle.std.proofs.lemmas.List.Splits.{length-slice_split}
use Rattle.std.proofs.lemmas.Bool.Decides.{nat_tests}
use Rattle.std.specs.Prelude.{◌==◌}
use Rattle.std.specs.List.{onto_first}
use Rattle.field.specs.Bytes.{place_of, split_at}

-- what is left after the first part: nothing where no mark ends it
abbrev pub after_first : ℕ → List ℕ → ℕ → List (List ℕ)
after_first m xs n = cond (ltb n (length xs)) (split_at m (drop (suc n) xs)) []

-- no byte: the place is 0
place_none : (m : ℕ) → place_of m [] ≡ 0
unfolding place_of
place_none m = refl

-- one byte more in front
place_more : (m x : ℕ) (xs : List ℕ) → place_of m (x ∷ xs) ≡ cond (eqb x m) 0 (suc (place_of m xs))
unfolding place_of
place_more m x xs = grind (arith, nat_tests)

pub split_first : (m : ℕ) (xs : List ℕ) → split_at m xs ≡ take (place_of m xs) xs ∷ after_first m xs (place_of m xs)
unfolding split_at
split_first m [] = rw (place_none m)
split_first m (x ∷ xs) =
    let h = ap (onto_first x) (split_first m xs) in
    let p = place_more m x xs in
    grind (arith, nat_tests)

-- what a reader at i has yet to hand out
abbrev pub from_at : ℕ → List ℕ → ℕ → List (List ℕ)
from_at m xs i = cond (leb i (length xs)) (split_at m (drop i xs)) []

pub step : (m : ℕ) (xs : List ℕ) (i n : ℕ) → i ≤ length xs → n ≡ place_of m (drop i xs) → from_at m xs i ≡ take n (drop i xs) ∷ from_at m xs (i + n + 1)
step m xs i n h e =
    let s = split_first m (drop i xs) in
    let d = drop-drop (suc n) i xs in
    let l = length-drop i xs in
    grind (arith, nat_tests)

-- how many parts one byte more makes
pub parts_more : (m x : ℕ) (xs : List ℕ) → length (split_at m (x ∷ xs)) ≡ cond (eqb x m) 1 0 + length (split_at m xs)
unfolding split_at
parts_more m x xs =
    let p : ℕ → Bool = λ b. b == m in
    let all = length-slice_split p (x ∷ xs) in
    let rest = length-slice_split p xs in
    grind (arith, nat_tests)
