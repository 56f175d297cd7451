-- How the work places change: ranks with the number of the rule that gave each.
use Rattle.std.specs.Prelude.{ℕ, zero, suc, ◌+◌, min, Bool, true, cond, List, [], ◌∷◌, Some, None, Option, slice_set}
use Rattle.std.specs.Option.{option_map}
use Rattle.std.specs.Ordering.{is_lt}
use Rattle.cost.specs.Model.{Model}
use Rattle.grammar.specs.Lists.{FormOf, chain, base0, base1, base2, RuleOf}
use Rattle.covers.specs.Trees.{Applied}
use Rattle.covers.specs.Ranks.{Rank, Ranks, Best, by_rank, at, base_offer}

-- whether what is new is before what stands there: by cost, then by the number of chain rules
abbrev pub improves : {C : Type 0} → Model C → Best C → Option (Best C) → Bool
improves m x None = true
improves m x (Some y) = is_lt (by_rank m (x.0, x.1) (y.0, y.1))

-- what is new at n, where it is better
abbrev pub keep : {C : Type 0} → Model C → List (Option (Best C)) → ℕ → Best C → List (Option (Best C))
keep m xs n x = cond (improves m x (at xs n)) (slice_set xs n (Some x)) xs

-- the same of what rule r gives, where it gives anything
abbrev pub keep_given : {C : Type 0} → Model C → List (Option (Best C)) → ℕ → ℕ → Option (Rank C) → List (Option (Best C))
keep_given m xs n r None = xs
keep_given m xs n r (Some p) = keep m xs n (p.0, p.1, r)

-- all rules, the first of which has the number r, one after another: f says what a rule gives over what stands
abbrev pub pass : {C : Type 0} → Model C → (List (Option (Best C)) → RuleOf C → Option (Rank C)) → List (Option (Best C)) → ℕ → List (RuleOf C) → List (Option (Best C))
pass m f xs r [] = xs
pass m f xs r (ρ ∷ ρs) = pass m f (keep_given m xs ρ.left r (f xs ρ)) (suc r) ρs

-- what a base rule gives
abbrev pub base_gives : {C : Type 0} → Model C → Applied (Ranks C) → List (Option (Best C)) → RuleOf C → Option (Rank C)
base_gives m s xs ρ = base_offer m s ρ.cost ρ.form

-- one more, up to the largest number of 64 bits
abbrev pub more : ℕ → ℕ
more d = min (d + 1) 18446744073709551615

abbrev pub over_source : {C : Type 0} → Model C → List (Option (Best C)) → C → FormOf → Option (Rank C)
over_source m xs c (chain s) = option_map (λ y. (m.sum y.0 c, more y.1)) (at xs s)
over_source m xs c (base0 op) = None
over_source m xs c (base1 op a) = None
over_source m xs c (base2 op a b) = None

-- what a chain rule gives
abbrev pub chain_gives : {C : Type 0} → Model C → List (Option (Best C)) → RuleOf C → Option (Rank C)
chain_gives m xs ρ = over_source m xs ρ.cost ρ.form

-- f done k times
abbrev pub times : {A : Type 0} → (A → A) → ℕ → A → A
times f zero x = x
times f (suc k) x = times f k (f x)

-- a round over the chain rules
abbrev pub round_of : {C : Type 0} → Model C → List (RuleOf C) → List (Option (Best C)) → List (Option (Best C))
round_of m ρs xs = pass m (chain_gives m) xs 1 ρs

-- what stands at a place, with its cost above f
abbrev pub lowered : {C : Type 0} → Model C → C → Option (Best C) → Option (Best C)
lowered m f o = option_map (λ y. (m.diff y.0 f, y.1, y.2)) o
