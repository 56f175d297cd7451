-- What the rounds over the chain rules come to.
use Rattle.std.specs.Prelude.{◌≡◌, ℕ, pred, ◌+◌, ◌≤◌, List, [], ◌∷◌, length, Some, None, ◌≢◌}
use Rattle.std.specs.declared.cmp.Ordering.TheVariants.{Less}
use Rattle.cost.specs.Model.{Model}
use Rattle.grammar.specs.Lists.{Lists, Sealed}
use Rattle.covers.specs.Trees.{count}
use Rattle.covers.specs.Covers.{Run, rule_cost}
use Rattle.covers.specs.Ranks.{Rank, Ranks, by_rank, at, up, round, rounds}

-- the rank of a run of chain rules over the rank p at its end
abbrev pub over : {C : Type 0} → Model C → Lists C → List ℕ → Rank C → Rank C
over m G [] p = p
over m G (r ∷ rs) p = up m (rule_cost m G r) (over m G rs p)

-- xs holds for each nonterminal n the least rank of all runs from n over what b holds, and none where there is no such run
pub record Closes {C : Type 0} (m : Model C) (G : Lists C) (b xs : Ranks C) : Type 0 where
  pub none : (n : ℕ) → at xs n ≡ None → (rs : List ℕ) (e : ℕ) (p : Rank C) → Run G rs n e → at b e ≢ Some p
  pub some : (n : ℕ) (q : Rank C) → at xs n ≡ Some q → (rs : List ℕ) × (e : ℕ) × (p : Rank C) × Run G rs n e × (at b e ≡ Some p) × (over m G rs p ≡ q)
  pub least : (n : ℕ) (q : Rank C) → at xs n ≡ Some q → (rs : List ℕ) (e : ℕ) (p : Rank C) → Run G rs n e → at b e ≡ Some p → by_rank m (over m G rs p) q ≢ Less

-- each rank weighs at most w
abbrev pub Weigh : {C : Type 0} → Model C → ℕ → Ranks C → Type 0
Weigh {C} m w b = (n : ℕ) (p : Rank C) → at b n ≡ Some p → m.weight p.0 ≤ w

abbrev pub light : ℕ
light = 70000000

abbrev pub Light : {C : Type 0} → Model C → Ranks C → Type 0
Light m b = Weigh m light b

-- one round fewer than there are nonterminals comes to the least ranks of all runs
abbrev pub ChainsClose : {C : Type 0} → Model C → Type 0
ChainsClose {C} m = (G : Lists C) → Sealed m G → (b : Ranks C) → length b ≡ count G → Light m b → Closes m G b (rounds m (pred (count G)) b G.rules)

-- a round that changes nothing is the last one that is needed
abbrev pub StopsEarly : {C : Type 0} → Model C → Type 0
StopsEarly {C} m = (G : Lists C) (xs : Ranks C) (j k : ℕ) → round m (rounds m j xs G.rules) G.rules ≡ rounds m j xs G.rules → rounds m (j + k) xs G.rules ≡ rounds m j xs G.rules
