-- The number of the first rule that passes, by its place.
use Rattle.std.proofs.Common.{◌≡◌, ℕ, suc, ◌+◌, Bool, true, false, cond, List, [], ◌∷◌, map, Some, None, Option, unwrap_or, refl, ap, ◌∙◌, arith}
use Rattle.std.proofs.lemmas.Iterator.Adapters.{position_from-zero}
use Rattle.std.specs.List.{position, position_from}
use Rattle.std.specs.Option.{MatchOption, option_map}
use Rattle.grammar.specs.Lists.{RuleOf}
use Rattle.grammar.specs.Views.{rule_of}
use Rattle.grammar.specs.declared.parts.Rule.{Rule}
use Rattle.covers.specs.Ranks.{first_from}

-- places are counted from 0, rules from 1; 0 where there is none
abbrev number_of : Option ℕ → ℕ
number_of o = unwrap_or (option_map (λ i. i + 1) o) 0

numbered : (o : Option ℕ) (r : ℕ) → MatchOption o (r ≡ 0) (λ i. r ≡ i + 1) → r ≡ number_of o
numbered None r h = h
numbered (Some i) r h = h

module _ {C : Type 0} (f : RuleOf C → Bool) where
  first_from_place : (i : ℕ) (ks : List (Rule C)) → number_of (position_from (λ k. f (rule_of k)) i ks) ≡ first_from f (i + 1) (map rule_of ks)
  first_from_place i [] = refl
  first_from_place i (k ∷ ks) =
      let e : i + 1 + 1 ≡ suc (i + 1) = omega arith in
      elim (f (rule_of k)) as (λ b. number_of (cond b (Some i) (position_from (λ j. f (rule_of j)) (i + 1) ks)) ≡ cond b (i + 1) (first_from f (suc (i + 1)) (map rule_of ks))) [
        | true ↦ refl
        | false ↦ first_from_place (i + 1) ks ∙ ap (λ n. first_from f n (map rule_of ks)) e
      ]

  pub first_at : (ks : List (Rule C)) (o : Option ℕ) (r : ℕ) → o ≡ position (λ k. f (rule_of k)) ks → MatchOption o (r ≡ 0) (λ i. r ≡ i + 1) → r ≡ first_from f 1 (map rule_of ks)
  first_at ks o r e h = numbered o r h ∙ ap number_of (e ∙ position_from-zero (λ k. f (rule_of k)) ks) ∙ first_from_place 0 ks
