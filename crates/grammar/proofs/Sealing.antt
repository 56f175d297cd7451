-- Declarations are within the limits, and every rule's parts are declared and fit.
use Rattle.std.proofs.Common.{◌≡◌, ℕ, true, map, vec_items, sym, ◌∙◌, subst, arith}
use Rattle.std.proofs.lemmas.List.{length-map}
use Rattle.grammar.specs.Fits.{rules_fit}
use Rattle.cost.specs.Model.{Model}
use Rattle.grammar.specs.Lists.{Declared, Priced, Sealed}
use Rattle.grammar.specs.Contents.{declared_lists}
use Rattle.grammar.specs.Views.{operator_of, nonterminal_of, rule_of}
use Rattle.grammar.specs.declared.declarations.Declarations.{Declarations}
use Rattle.grammar.proofs.Fitting.{declared}

module _ {C : Type 0} where
  pub declarations_fit : (d : Declarations C) → Declared (declared_lists d)
  declarations_fit d =
      let o = length-map (vec_items d.operators) operator_of in
      let n = length-map (vec_items d.nonterminals) nonterminal_of in
      let r = length-map (vec_items d.rules) (rule_of {C = C}) in
      let P : ℕ → Type 0 = λ k. rules_fit (map operator_of (vec_items d.operators)) k (map rule_of (vec_items d.rules)) ≡ true in
      declared (declared_lists d) (omega arith) (omega arith) (omega arith) d.kids (subst P (d.nonterminals.ok.0 ∙ sym n) d.fit)

  -- with lawful costs, that is all that holds of a sealed grammar
  pub sealed_with : (m : Model C) (d : Declarations C) → Priced m (declared_lists d) → Sealed m (declared_lists d)
  sealed_with m d p = record { declared = declarations_fit d; priced = p }
