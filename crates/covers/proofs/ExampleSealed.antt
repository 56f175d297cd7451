-- The small machine is a sealed grammar.
use Rattle.std.proofs.Common.{◌≡◌, ℕ, zero, suc, ◌<◌, ◌≤◌, List, [], ◌∷◌, pos, Some, Ordering, Less, Equal, Greater, refl, ◌∙◌, subst, arith}
use borrow.Author.Differences.{ints}
use Rattle.std.specs.List.{slice_get}
use Rattle.std.specs.Ordering.{ordering_then, int_cmp}
use Rattle.cost.specs.Model.{Model}
use Rattle.cost.specs.Counts.{count_model}
use Rattle.grammar.specs.Lists.{OperatorOf, FormOf, RuleOf, rule, FormFits, Declared, Sealed}
use Rattle.covers.specs.Example.{rule_of, machine, bytes, cycles, cycles_model}
use Rattle.covers.proofs.Relaxing.{some_is, none_some}

abbrev All : {A : Type 0} → (A → Type 0) → List A → Type 0
All P [] = Unit {0}
All P (x ∷ xs) = P x × All P xs

all_at : {A : Type 0} (P : A → Type 0) (xs : List A) → All P xs → (i : ℕ) (x : A) → slice_get xs i ≡ Some x → P x
all_at P [] h i x e = absurd (none_some x e)
all_at P (y ∷ xs) h zero x e = subst P (some_is y x e) h.0
all_at P (y ∷ xs) h (suc i) x e = all_at P xs h.1 i x e

module _ {C : Type 0} (f : ℕ → ℕ → C) where
  -- what is asked of each rule
  record RuleFits (ρ : RuleOf C) : Type 0 where
    pub inside : ρ.left < 3
    pub parts : FormFits (machine f).operators 3 ρ.left ρ.form

  abbrev Fit : RuleOf C → Type 0
  Fit ρ = RuleFits ρ

  rules_fit : All Fit (machine f).rules
  rules_fit = (record { inside = omega arith; parts = refl }, (record { inside = omega arith; parts = refl }, (record { inside = omega arith; parts = (omega arith, λ e. omega arith) }, (record { inside = omega arith; parts = (refl, omega arith, omega arith) }, (record { inside = omega arith; parts = (refl, omega arith, omega arith) }, (record { inside = omega arith; parts = (refl, omega arith, omega arith) }, (record { inside = omega arith; parts = (omega arith, λ e. omega arith) }, (record { inside = omega arith; parts = (refl, omega arith) }, tt))))))))

  fit : (r : ℕ) (ρ : RuleOf C) → rule (machine f) r ≡ Some ρ → RuleFits ρ
  fit zero ρ e = absurd (none_some ρ e)
  fit (suc i) ρ e = all_at Fit (machine f).rules rules_fit i ρ e

  few_kids : (o : ℕ) (x : OperatorOf) → slice_get (machine f).operators o ≡ Some x → x.kids ≤ 2
  few_kids = all_at (λ x. x.kids ≤ 2) (machine f).operators (omega arith, (omega arith, (omega arith, (omega arith, tt))))

  declared : Declared (machine f)
  declared = record {
    few_operators = omega arith;
    few_nonterminals = omega arith;
    few_rules = omega arith;
    few_kids = few_kids;
    left_declared = λ r ρ e. (fit r ρ e).inside;
    form_fits = λ r ρ e. (fit r ρ e).parts;
  }

  module _ (m : Model C) (from_zero : (c b : ℕ) → m.cmp (f c b) m.zero ≡ Less → ⊥) (light : (c b : ℕ) → c ≤ 1000 → b ≤ 1000 → m.weight (f c b) ≤ 1000) where
    record CostFits (ρ : RuleOf C) : Type 0 where
      pub from : m.cmp ρ.cost m.zero ≡ Less → ⊥
      pub weighs : m.weight ρ.cost ≤ 1000

    cost_fits : (left : ℕ) (form : FormOf) (c b : ℕ) (name : List ℕ) → c ≤ 1000 → b ≤ 1000 → CostFits (rule_of left form (f c b) name)
    cost_fits left form c b name h k = record { from = from_zero c b; weighs = light c b h k }

    abbrev Cost : RuleOf C → Type 0
    Cost ρ = CostFits ρ

    costs_fit : All Cost (machine f).rules
    costs_fit = (cost_fits _ _ 0 0 _ (omega arith) (omega arith), (cost_fits _ _ 0 0 _ (omega arith) (omega arith), (cost_fits _ _ 1 2 _ (omega arith) (omega arith), (cost_fits _ _ 1 2 _ (omega arith) (omega arith), (cost_fits _ _ 1 3 _ (omega arith) (omega arith), (cost_fits _ _ 0 0 _ (omega arith) (omega arith), (cost_fits _ _ 0 0 _ (omega arith) (omega arith), (cost_fits _ _ 2 2 _ (omega arith) (omega arith), tt))))))))

    cost_fit : (r : ℕ) (ρ : RuleOf C) → rule (machine f) r ≡ Some ρ → CostFits ρ
    cost_fit zero ρ e = absurd (none_some ρ e)
    cost_fit (suc i) ρ e = all_at Cost (machine f).rules costs_fit i ρ e

    sealed : Sealed m (machine f)
    sealed = record { declared = declared; priced = record { from_zero = λ r ρ e. (cost_fit r ρ e).from; light = λ r ρ e. (cost_fit r ρ e).weighs } }

not_below : (c : ℕ) → int_cmp (pos c) (pos 0) ≡ Less → ⊥
not_below c e = grind (arith, ints)

not_below_then : (c b : ℕ) (r s : Ordering) → int_cmp (pos c) (pos 0) ≡ r → int_cmp (pos b) (pos 0) ≡ s → ordering_then r s ≡ Less → ⊥
not_below_then c b Less s p q e = not_below c p
not_below_then c b Equal s p q e = not_below b (q ∙ e)
not_below_then c b Greater s p q e = not_below c (p ∙ e)

pub sealed_bytes : Sealed count_model (machine bytes)
sealed_bytes = sealed bytes count_model (λ c b. not_below b) (λ c b h k. k)

pub sealed_cycles : Sealed cycles_model (machine cycles)
sealed_cycles = sealed cycles cycles_model (λ c b. not_below_then c b (int_cmp (pos c) (pos 0)) (int_cmp (pos b) (pos 0)) refl refl) (λ c b h k. omega arith)
