-- The lines of a grammar, as they are written.
use Rattle.std.proofs.Common.{◌≡◌, ℕ, ◌+◌, List, [], ◌∷◌, ◌++◌, map, length, ℤ, sym, refl, ap, ◌∙◌, append_assoc}
use lib.ListN.{length-map}
use Rattle.grammar.specs.Lists.{Text, Lists}
use Rattle.grammar.specs.Views.{operator_of, nonterminal_of, rule_of}
use Rattle.grammar.specs.declared.parts.Operator.{Operator}
use Rattle.grammar.specs.declared.parts.Nonterminal.{Nonterminal}
use Rattle.grammar.specs.declared.parts.Rule.{Rule}
use Rattle.listing.specs.Lines.{nt_line, counts_line}
use Rattle.inspection.specs.Inspections.{ended, lines_text, operator_line, rule_line, grammar_text}

module _ {A B : Type 0} (f : ℕ → B → Text) (g : A → B) where
  lines_map : (i : ℕ) (xs : List A) → lines_text (λ n x. f n (g x)) i xs ≡ lines_text f i (map g xs)
  unfolding lines_text
  lines_map i [] = refl
  lines_map i (x ∷ xs) = ap (λ t. ended (f i (g x)) ++ t) (lines_map (i + 1) xs)

  lines_as : (i : ℕ) (xs : List A) (ys : List B) → map g xs ≡ ys → lines_text (λ n x. f n (g x)) i xs ≡ lines_text f i ys
  lines_as i xs ys e = lines_map i xs ∙ ap (lines_text f i) e

length_as : {A B : Type 0} (g : A → B) (xs : List A) (ys : List B) → map g xs ≡ ys → length xs ≡ length ys
length_as g xs ys e = sym (length-map xs g) ∙ ap length e

module _ {C : Type 0} (figures : C → List ℤ) (G : Lists C) (os : List Operator) (ns : List Nonterminal) (rs : List (Rule C)) where
  -- the three parts and the counts, one behind the other
  pub all_written : (t t₁ t₂ t₃ t₄ : Text) → map operator_of os ≡ G.operators → map nonterminal_of ns ≡ G.nonterminals → map rule_of rs ≡ G.rules → t ≡ [] → t₁ ≡ t ++ lines_text (λ n x. operator_line n (operator_of x)) 0 os → t₂ ≡ t₁ ++ lines_text (λ n x. nt_line n (nonterminal_of x)) 0 ns → t₃ ≡ t₂ ++ lines_text (λ n x. rule_line figures G n (rule_of x)) 1 rs → t₄ ≡ t₃ ++ ended (counts_line (length os) (length ns) (length rs)) → t₄ ≡ grammar_text figures G
  all_written t t₁ t₂ t₃ t₄ o n r e e₁ e₂ e₃ e₄ =
      let ops = lines_text operator_line 0 G.operators in
      let nts = lines_text nt_line 0 G.nonterminals in
      let rules = lines_text (rule_line figures G) 1 G.rules in
      let counts = ended (counts_line (length G.operators) (length G.nonterminals) (length G.rules)) in
      let a : t₁ ≡ ops = e₁ ∙ ap (λ x. x ++ lines_text (λ n x. operator_line n (operator_of x)) 0 os) e ∙ lines_as operator_line operator_of 0 os G.operators o in
      let b : t₂ ≡ ops ++ nts = e₂ ∙ ap (λ x. x ++ lines_text (λ n x. nt_line n (nonterminal_of x)) 0 ns) a ∙ ap (λ x. ops ++ x) (lines_as nt_line nonterminal_of 0 ns G.nonterminals n) in
      let d : t₃ ≡ (ops ++ nts) ++ rules = e₃ ∙ ap (λ x. x ++ lines_text (λ n x. rule_line figures G n (rule_of x)) 1 rs) b ∙ ap (λ x. (ops ++ nts) ++ x) (lines_as (rule_line figures G) rule_of 1 rs G.rules r) in
      let h : ended (counts_line (length os) (length ns) (length rs)) ≡ counts = ap (λ k. ended (counts_line k (length ns) (length rs))) (length_as operator_of os G.operators o) ∙ ap (λ k. ended (counts_line (length G.operators) k (length rs))) (length_as nonterminal_of ns G.nonterminals n) ∙ ap (λ k. ended (counts_line (length G.operators) (length G.nonterminals) k)) (length_as rule_of rs G.rules r) in
      e₄ ∙ ap (λ x. x ++ ended (counts_line (length os) (length ns) (length rs))) d ∙ ap (λ x. ((ops ++ nts) ++ rules) ++ x) h ∙ append_assoc (ops ++ nts) rules counts ∙ append_assoc ops nts (rules ++ counts)
