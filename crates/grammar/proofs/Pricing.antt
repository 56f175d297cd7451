-- Costs stay lawful as rules are added.
use Rattle.std.proofs.Common.{◌≡◌, ℕ, zero, suc, ◌≤◌, false, List, [], ◌∷◌, ◌++◌, Some, Less, sym, ap, ◌∙◌, subst, ⊎_elim, arith}
use Rattle.std.specs.Ordering.{is_lt}
use Rattle.std.proofs.lemmas.Bool.{or_parts, ltb-false, both_ways}
use Rattle.cost.specs.Model.{Model}
use Rattle.grammar.specs.Drafting.{unpriced}
use Rattle.grammar.specs.Lists.{RuleOf, Lists, numbered, rule, Priced}
use Rattle.grammar.proofs.Places.{nth_push}

module _ {C : Type 0} (m : Model C) where
  -- a cost that a draft does not refuse
  abbrev Good : C → Type 0
  Good c = (m.cmp c m.zero ≡ Less → ⊥) × (m.weight c ≤ 1000)

  good : (c : C) → unpriced m c ≡ false → Good c
  good c h =
      let p = or_parts _ _ h in
      (λ e. both_ways _ p.0 (ap is_lt e), ltb-false 1000 (m.weight c) p.1)

  each : (G : Lists C) → Priced m G → (r : ℕ) (ρ : RuleOf C) → rule G r ≡ Some ρ → Good ρ.cost
  each G p r ρ e = (p.from_zero r ρ e, p.light r ρ e)

  all : (G : Lists C) → ((r : ℕ) (ρ : RuleOf C) → rule G r ≡ Some ρ → Good ρ.cost) → Priced m G
  all G h = record { from_zero = λ r ρ e. (h r ρ e).0; light = λ r ρ e. (h r ρ e).1 }

  pub priced_same : (G H : Lists C) → H.rules ≡ G.rules → Priced m G → Priced m H
  priced_same G H e p = all H (λ r ρ h. each G p r ρ (ap (λ (rs : List (RuleOf C)). numbered rs r) (sym e) ∙ h))

  pushed : (G : Lists C) (σ : RuleOf C) → Priced m G → Good σ.cost → (r : ℕ) (ρ : RuleOf C) → numbered (G.rules ++ σ ∷ []) r ≡ Some ρ → Good ρ.cost
  pushed G σ p g zero ρ h = let z : ◌≡◌ {A = ℕ} 0 1 = cc in absurd (omega arith)
  pushed G σ p g (suc i) ρ h =
      ⊎_elim (λ k. each G p (suc i) ρ k) (λ k. let P : RuleOf C → Type 0 = λ x. Good x.cost in subst P k g) (nth_push G.rules σ ρ i h)

  pub priced_rule : (G H : Lists C) (σ : RuleOf C) → H.rules ≡ G.rules ++ σ ∷ [] → unpriced m σ.cost ≡ false → Priced m G → Priced m H
  priced_rule G H σ e u p = all H (λ r ρ h. pushed G σ p (good σ.cost u) r ρ (ap (λ (rs : List (RuleOf C)). numbered rs r) (sym e) ∙ h))

  pub priced_none : (G : Lists C) → G.rules ≡ [] → Priced m G
  priced_none G e = all G (λ r ρ h. absurd (none r ρ (ap (λ (rs : List (RuleOf C)). numbered rs r) (sym e) ∙ h))) where
    none : (r : ℕ) (ρ : RuleOf C) → numbered [] r ≡ Some ρ → ⊥
    none zero ρ h = let z : ◌≡◌ {A = ℕ} 0 1 = cc in omega arith
    none (suc i) ρ h = let z : ◌≡◌ {A = ℕ} 0 1 = cc in omega arith
