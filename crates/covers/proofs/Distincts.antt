-- Different numbers below n are at most n.
use Rattle.std.proofs.Common.{◌≡◌, ℕ, zero, suc, ◌<◌, ◌≤◌, Bool, true, false, cond, eqb, ◌≢◌, List, [], ◌∷◌, length, sym, refl, ap, subst, arith}
use Rattle.std.proofs.lemmas.Bool.{eqb-true, eqb-false}
use Rattle.covers.specs.Covers.{Apart, Distinct}
use Rattle.covers.specs.Nodes.{Below}

abbrev without : ℕ → List ℕ → List ℕ
without n [] = []
without n (x ∷ xs) = cond (eqb x n) (without n xs) (x ∷ without n xs)

apart_less : (y n : ℕ) (xs : List ℕ) → Apart y xs → Apart y (without n xs)
apart_less y n [] h = tt
apart_less y n (x ∷ xs) h = elim (eqb x n) as (λ b. Apart y (cond b (without n xs) (x ∷ without n xs))) [ true ↦ apart_less y n xs h.1 | false ↦ (h.0, apart_less y n xs h.1) ]

distinct_less : (n : ℕ) (xs : List ℕ) → Distinct xs → Distinct (without n xs)
distinct_less n [] h = tt
distinct_less n (x ∷ xs) h = elim (eqb x n) as (λ b. Distinct (cond b (without n xs) (x ∷ without n xs))) [ true ↦ distinct_less n xs h.1 | false ↦ (apart_less x n xs h.0, distinct_less n xs h.1) ]

below_by : (n x : ℕ) (xs : List ℕ) (b : Bool) → eqb x n ≡ b → x < suc n → Below n (without n xs) → Below n (cond b (without n xs) (x ∷ without n xs))
below_by n x xs true e h k = k
below_by n x xs false e h k = let ne : x ≡ n → ⊥ = eqb-false x n e in (omega arith, k)

below_less : (n : ℕ) (xs : List ℕ) → Below (suc n) xs → Below n (without n xs)
below_less n [] h = tt
below_less n (x ∷ xs) h = below_by n x xs (eqb x n) refl h.0 (below_less n xs h.1)

same_by : (n x : ℕ) (xs : List ℕ) (b : Bool) → eqb x n ≡ b → n ≢ x → without n xs ≡ xs → cond b (without n xs) (x ∷ without n xs) ≡ x ∷ xs
same_by n x xs true e h k = absurd (h (sym (eqb-true x n e)))
same_by n x xs false e h k = ap (λ z. x ∷ z) k

without_apart : (n : ℕ) (xs : List ℕ) → Apart n xs → without n xs ≡ xs
without_apart n [] h = refl
without_apart n (x ∷ xs) h = same_by n x xs (eqb x n) refl h.0 (without_apart n xs h.1)

length_by : (n x : ℕ) (xs : List ℕ) (b : Bool) → eqb x n ≡ b → Apart x xs → length xs ≤ suc (length (without n xs)) → length (x ∷ xs) ≤ suc (length (cond b (without n xs) (x ∷ without n xs)))
length_by n x xs true e h k =
    let same : without n xs ≡ xs = without_apart n xs (subst (λ z. Apart z xs) (eqb-true x n e) h) in
    subst (λ z. suc (length xs) ≤ suc (length z)) (sym same) (omega arith)
length_by n x xs false e h k = omega arith

length_less : (n : ℕ) (xs : List ℕ) → Distinct xs → length xs ≤ suc (length (without n xs))
length_less n [] h = omega arith
length_less n (x ∷ xs) h = length_by n x xs (eqb x n) refl h.0 (length_less n xs h.1)

pub distinct_few : (n : ℕ) (xs : List ℕ) → Distinct xs → Below n xs → length xs ≤ n
distinct_few zero [] d h = omega arith
distinct_few zero (x ∷ xs) d h = absurd (let k : x < 0 = h.0 in omega arith)
distinct_few (suc n) xs d h =
    let k = distinct_few n (without n xs) (distinct_less n xs d) (below_less n xs h) in
    omega (arith, length_less n xs d)
