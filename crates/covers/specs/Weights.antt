-- How much the costs weigh that the definitions and the computation of a row form.
use Rattle.std.specs.Prelude.{◌≡◌, ℕ, ◌*◌, ◌≤◌, take, replicate, Some, None}
use Rattle.cost.specs.Model.{Model}
use Rattle.grammar.specs.Lists.{RuleOf, Lists, rule, Sealed}
use Rattle.covers.specs.Trees.{count, Applied, Tree, size}
use Rattle.covers.specs.Covers.{Cover, Covers, cover_cost, Least, LeastOfAll}
use Rattle.covers.specs.Ranks.{Rank, Ranks, at, base_offer, chain_offer, bases, round, rounds, kid_ranks}
use Rattle.covers.specs.Rows.{row, kid_rows, as_ranks}
use Rattle.covers.specs.Steps.{steps, total}
use Rattle.covers.specs.Rounds.{Weigh}

-- what three costs may weigh each, so that the laws hold of them
abbrev pub third : ℕ
third = 240000000

-- the ranks after the first i rules have been taken as base rules
abbrev pub after_bases : {C : Type 0} → Model C → Lists C → Applied (Ranks C) → ℕ → Ranks C
after_bases m G s i = bases m s (replicate (count G) None) (take i G.rules)

-- the ranks after all base rules, j rounds over the chain rules, and the first i rules of one more
abbrev pub after_rounds : {C : Type 0} → Model C → Lists C → Applied (Ranks C) → ℕ → ℕ → Ranks C
after_rounds m G s j i = round m (rounds m j (bases m s (replicate (count G) None) G.rules) G.rules) (take i G.rules)

-- from s, an operator with its kids' ranks, no rank that is ever held or given by a rule weighs more than a third
pub record LightFrom {C : Type 0} (m : Model C) (G : Lists C) (s : Applied (Ranks C)) : Type 0 where
  pub bases_held : (i : ℕ) → Weigh m third (after_bases m G s i)
  pub bases_given : (r : ℕ) (ρ : RuleOf C) (p : Rank C) → rule G r ≡ Some ρ → base_offer m s ρ.cost ρ.form ≡ Some p → m.weight p.0 ≤ third
  pub chains_held : (j i : ℕ) → Weigh m third (after_rounds m G s j i)
  pub chains_given : (j i r : ℕ) (ρ : RuleOf C) (p : Rank C) → rule G r ≡ Some ρ → chain_offer m (after_rounds m G s j i) ρ.cost ρ.form ≡ Some p → m.weight p.0 ≤ third

-- covers, least costs, the costs of a row, a rule's cost with that of its left kid t, the costs on the way to a row, from the kids' least costs or from their rows, and the
-- costs on the way to the total of a cover's steps
pub record LightTree {C : Type 0} (m : Model C) (G : Lists C) (t : Tree) : Type 0 where
  pub covers : (k : Cover) (n : ℕ) → Covers G k t n → m.weight (cover_cost m G k) ≤ 32000 * size t
  pub least : (n : ℕ) (c : C) → Least m G t n c → m.weight c ≤ 65536000
  pub least_of_all : (f : C) → LeastOfAll m G t f → m.weight f ≤ 65536000
  pub above : (n r : ℕ) (x : C) → at (row m G t) n ≡ Some (r, x) → m.weight x ≤ 131072000
  pub under_rule : (r : ℕ) (ρ : RuleOf C) (n : ℕ) (c : C) → rule G r ≡ Some ρ → Least m G t n c → m.weight (m.sum ρ.cost c) ≤ third
  pub above_under_rule : (r : ℕ) (ρ : RuleOf C) (n q : ℕ) (x : C) → rule G r ≡ Some ρ → at (row m G t) n ≡ Some (q, x) → m.weight (m.sum ρ.cost x) ≤ third
  pub from_least_costs : LightFrom m G (kid_ranks m G t)
  pub from_rows : LightFrom m G (as_ranks (kid_rows m G t))
  pub totals : (k : Cover) (n i : ℕ) → Covers G k t n → m.weight (total m G (take i (steps t k))) ≤ 65536000

-- every cost stays light enough for the laws of cost
abbrev pub StaysLight : {C : Type 0} → Model C → Type 0
StaysLight {C} m = (G : Lists C) → Sealed m G → (t : Tree) → size t ≤ 2048 → LightTree m G t
