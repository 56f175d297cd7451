-- Runs of chain rules: how long and how heavy they are.
use Rattle.std.proofs.Common.{◌≡◌, ℕ, suc, pred, ◌+◌, ◌*◌, ◌<◌, ◌≤◌, List, [], ◌∷◌, length, Some, sym, refl, ap, subst, arith}
use Rattle.cost.specs.Model.{Model, Laws}
use Rattle.grammar.specs.Lists.{FormOf, chain, RuleOf, Lists, rule, FormFits, Sealed}
use Rattle.covers.specs.Trees.{count}
use Rattle.covers.specs.Covers.{cost_or_zero, rule_cost, source, RuleIs, Linked, on_run, Run}
use Rattle.covers.specs.Ranks.{Rank}
use Rattle.covers.specs.Nodes.{Below}
use Rattle.covers.specs.Rounds.{over, light}
use Rattle.covers.proofs.Within.{Fair, RuleCost}
use Rattle.covers.proofs.Distincts.{distinct_few}

module _ {C : Type 0} {m : Model C} {G : Lists C} (sealed : Sealed m G) where
  pub cost_bounds : (r : ℕ) (ρ : RuleOf C) → rule G r ≡ Some ρ → RuleCost m ρ.cost
  cost_bounds r ρ e = record { from_zero = sealed.priced.from_zero r ρ e; light = sealed.priced.light r ρ e }

  pub rule_cost_bounds : (r n : ℕ) (s : FormOf) → RuleIs G r n s → RuleCost m (rule_cost m G r)
  rule_cost_bounds r n s i = subst (RuleCost m) (sym (ap (cost_or_zero m) i.stands)) (cost_bounds r i.ρ i.stands)

  pub left_inside : (r n : ℕ) (s : FormOf) → RuleIs G r n s → n < count G
  left_inside r n s i = subst (λ z. z < count G) i.from (sealed.declared.left_declared r i.ρ i.stands)

  pub parts_inside : (r n : ℕ) (s : FormOf) → RuleIs G r n s → FormFits G.operators (count G) n s
  parts_inside r n s i = subst (λ z. FormFits G.operators (count G) n z) i.formed (subst (λ z. FormFits G.operators (count G) z i.ρ.form) i.from (sealed.declared.form_fits r i.ρ i.stands))

  on_run_inside : (rs : List ℕ) (n e : ℕ) → n < count G → Linked G rs n e → Below (count G) (on_run G rs n)
  on_run_inside [] n e h k = (h, tt)
  on_run_inside (r ∷ rs) n e h k = (h, on_run_inside rs (source G r) e (parts_inside r n (chain (source G r)) k.0).0 k.1)

  on_run_length : (rs : List ℕ) (n : ℕ) → length (on_run G rs n) ≡ suc (length rs)
  on_run_length [] n = refl
  on_run_length (r ∷ rs) n = ap suc (on_run_length rs (source G r))

  -- a run is shorter than there are nonterminals
  pub run_short : (rs : List ℕ) (n e : ℕ) → Run G rs n e → length rs ≤ pred (count G)
  run_short [] n e h = omega arith
  run_short (r ∷ rs) n e h =
      let inside : n < count G = left_inside r n (chain (source G r)) h.linked.0 in
      let k : length (on_run G (r ∷ rs) n) ≤ count G = distinct_few (count G) (on_run G (r ∷ rs) n) h.simple (on_run_inside (r ∷ rs) n e inside h.linked) in
      omega (arith, on_run_length (r ∷ rs) n)

  pub run_rest : (r : ℕ) (rs : List ℕ) (n e : ℕ) → Run G (r ∷ rs) n e → Run G rs (source G r) e
  run_rest r rs n e h = record { linked = h.linked.1; simple = h.simple.1 }

  module _ (l : Laws m) where
    pub over_weight : (w : ℕ) → w ≤ light → (rs : List ℕ) (n e : ℕ) (p : Rank C) → Linked G rs n e → length rs ≤ 32 → m.weight p.0 ≤ w → m.weight (over m G rs p).0 ≤ w + 1000 * length rs
    over_weight w f [] n e p k s h = omega arith
    over_weight w f (r ∷ rs) n e p k s h =
        let before : m.weight (over m G rs p).0 ≤ w + 1000 * length rs = over_weight w f rs (source G r) e p k.1 (omega arith) h in
        let small = (rule_cost_bounds r n (chain (source G r)) k.0).light in
        omega (arith, l.sum_weight (over m G rs p).0 (rule_cost m G r) (omega arith))

    pub run_weight : (w : ℕ) → w ≤ light → (rs : List ℕ) (n e : ℕ) (p : Rank C) → Run G rs n e → m.weight p.0 ≤ w → m.weight (over m G rs p).0 ≤ w + 31000
    run_weight w f rs n e p k h =
        let few = sealed.declared.few_nonterminals in
        let s : length rs ≤ 31 = omega (arith, run_short rs n e k) in
        omega (arith, over_weight w f rs n e p k.linked (omega arith) h)

    pub run_fair : (rs : List ℕ) (n e : ℕ) (p : Rank C) → Run G rs n e → m.weight p.0 ≤ light → Fair m (over m G rs p).0
    run_fair rs n e p k h = omega (arith, run_weight light (omega arith) rs n e p k h)
