-- The chosen cover of a tree, and the steps of a cover.
use Rattle.std.specs.Prelude.{ℕ, zero, suc, ◌+◌, List, [], ◌∷◌, ◌++◌, length, ℤ, Some, None, Option}
use Rattle.std.specs.Option.{option_map}
use Rattle.cost.specs.Model.{Model}
use Rattle.grammar.specs.Lists.{FormOf, chain, base0, base1, base2, RuleOf, Lists, rule}
use Rattle.covers.specs.Trees.{Tree, node0, node1, node2}
use Rattle.covers.specs.Covers.{source, rule_cost, Cover, cover0, cover1, cover2, Chooses}
use Rattle.covers.specs.Ranks.{Best, at, best}

-- the nonterminals of a base rule for its left and its right kid, and 0 where there is none
abbrev pub form_kids : FormOf → ℕ × ℕ
form_kids (chain s) = (0, 0)
form_kids (base0 op) = (0, 0)
form_kids (base1 op a) = (a, 0)
form_kids (base2 op a b) = (a, b)

abbrev pub rule_kids : {C : Type 0} → Option (RuleOf C) → ℕ × ℕ
rule_kids None = (0, 0)
rule_kids (Some ρ) = form_kids ρ.form

abbrev pub left_kid : {C : Type 0} → Lists C → ℕ → ℕ
left_kid G r = (rule_kids (rule G r)).0

abbrev pub right_kid : {C : Type 0} → Lists C → ℕ → ℕ
right_kid G r = (rule_kids (rule G r)).1

-- the number of chain rules and the chosen rule, and 0 where there is no cover
abbrev pub best_chains : {C : Type 0} → Option (Best C) → ℕ
best_chains None = 0
best_chains (Some x) = x.1

abbrev pub best_rule : {C : Type 0} → Option (Best C) → ℕ
best_rule None = 0
best_rule (Some x) = x.2

-- d chain rules, each the choice where it stands, from n on
abbrev pub follow : {C : Type 0} → Lists C → List (Option (Best C)) → ℕ → ℕ → List ℕ
follow G os zero n = []
follow G os (suc d) n = best_rule (at os n) ∷ follow G os d (source G (best_rule (at os n)))

-- where a run of chain rules from n ends
abbrev pub run_end : {C : Type 0} → Lists C → List ℕ → ℕ → ℕ
run_end G [] n = n
run_end G (r ∷ rs) n = run_end G rs (source G r)

-- the run of the chosen cover of t from n, and its base rule
abbrev pub chosen_run : {C : Type 0} → Model C → Lists C → Tree → ℕ → List ℕ
chosen_run m G t n = follow G (best m G t) (best_chains (at (best m G t) n)) n

abbrev pub chosen_base : {C : Type 0} → Model C → Lists C → Tree → ℕ → ℕ
chosen_base m G t n = best_rule (at (best m G t) (run_end G (chosen_run m G t n) n))

-- the cover that follows the choices from n downwards
abbrev pub following : {C : Type 0} → Model C → Lists C → Tree → ℕ → Cover
following m G (node0 op p) n = cover0 (chosen_run m G (node0 op p) n) (chosen_base m G (node0 op p) n)
following m G (node1 op p t) n = cover1 (chosen_run m G (node1 op p t) n) (chosen_base m G (node1 op p t) n) (following m G t (left_kid G (chosen_base m G (node1 op p t) n)))
following m G (node2 op p t u) n = cover2 (chosen_run m G (node2 op p t u) n) (chosen_base m G (node2 op p t u) n) (following m G t (left_kid G (chosen_base m G (node2 op p t u) n))) (following m G u (right_kid G (chosen_base m G (node2 op p t u) n)))

-- the chosen cover of t from n, where there is a cover
abbrev pub chosen : {C : Type 0} → Model C → Lists C → Tree → ℕ → Option Cover
chosen m G t n = option_map (λ _. following m G t n) (at (best m G t) n)

-- each rule of a run from n is the choice where it stands, and r is the choice where the run ends
abbrev pub FollowsRun : {C : Type 0} → Model C → Lists C → Tree → List ℕ → ℕ → ℕ → Type 0
FollowsRun m G t [] n r = Chooses m G t n r
FollowsRun m G t (q ∷ qs) n r = Chooses m G t n q × FollowsRun m G t qs (source G q) r

-- each rule of the cover is the choice where it stands
abbrev pub Follows : {C : Type 0} → Model C → Lists C → Cover → Tree → ℕ → Type 0
Follows m G (cover0 rs r) (node0 op p) n = FollowsRun m G (node0 op p) rs n r
Follows m G (cover0 rs r) (node1 op p t) n = ⊥
Follows m G (cover0 rs r) (node2 op p t u) n = ⊥
Follows m G (cover1 rs r k) (node0 op p) n = ⊥
Follows m G (cover1 rs r k) (node1 op p t) n = FollowsRun m G (node1 op p t) rs n r × Follows m G k t (left_kid G r)
Follows m G (cover1 rs r k) (node2 op p t u) n = ⊥
Follows m G (cover2 rs r k j) (node0 op p) n = ⊥
Follows m G (cover2 rs r k j) (node1 op p t) n = ⊥
Follows m G (cover2 rs r k j) (node2 op p t u) n = FollowsRun m G (node2 op p t u) rs n r × Follows m G k t (left_kid G r) × Follows m G j u (right_kid G r)

-- a step: a rule's number, the payload of the node that it covers, and the left and the right step that it uses; steps are counted
-- from 1, and 0 stands for none
pub record Step : Type 0 where
  pub rule : ℕ
  pub payload : ℤ
  pub left : ℕ
  pub right : ℕ

abbrev pub step : ℕ → ℤ → ℕ → ℕ → Step
step r p a b = record { rule = r; payload = p; left = a; right = b }

-- how many steps a cover has: one for each rule
abbrev pub step_count : Cover → ℕ
step_count (cover0 rs r) = 1 + length rs
step_count (cover1 rs r k) = step_count k + (1 + length rs)
step_count (cover2 rs r k j) = step_count k + step_count j + (1 + length rs)

-- the steps of a run after step i, from its inner to its outer rule, each of which uses the step before it
abbrev pub chain_steps : List ℕ → ℤ → ℕ → List Step
chain_steps [] p i = []
chain_steps (r ∷ rs) p i = chain_steps rs p i ++ step r p (i + length rs) 0 ∷ []

-- the steps of a cover of a tree after i others: the left kid's, the right kid's, the base rule, then the chain rules
abbrev pub steps_after : ℕ → Tree → Cover → List Step
steps_after i (node0 op p) (cover0 rs r) = step r p 0 0 ∷ chain_steps rs p (i + 1)
steps_after i (node0 op p) (cover1 rs r k) = []
steps_after i (node0 op p) (cover2 rs r k j) = []
steps_after i (node1 op p t) (cover0 rs r) = []
steps_after i (node1 op p t) (cover1 rs r k) = steps_after i t k ++ step r p (i + step_count k) 0 ∷ chain_steps rs p (i + step_count k + 1)
steps_after i (node1 op p t) (cover2 rs r k j) = []
steps_after i (node2 op p t u) (cover0 rs r) = []
steps_after i (node2 op p t u) (cover1 rs r k) = []
steps_after i (node2 op p t u) (cover2 rs r k j) = steps_after i t k ++ (steps_after (i + step_count k) u j ++ step r p (i + step_count k) (i + step_count k + step_count j) ∷ chain_steps rs p (i + step_count k + step_count j + 1))

-- the steps of a cover of a tree
abbrev pub steps : Tree → Cover → List Step
steps t k = steps_after 0 t k

-- the steps of the chosen cover
abbrev pub chosen_steps : {C : Type 0} → Model C → Lists C → Tree → ℕ → Option (List Step)
chosen_steps m G t n = option_map (steps t) (chosen m G t n)

-- c with the costs of the steps' rules added to it, one after another
abbrev pub total_after : {C : Type 0} → Model C → Lists C → C → List Step → C
total_after m G c [] = c
total_after m G c (x ∷ xs) = total_after m G (m.sum c (rule_cost m G x.rule)) xs

-- the costs of the steps' rules, added up
abbrev pub total : {C : Type 0} → Model C → Lists C → List Step → C
total m G xs = total_after m G m.zero xs
