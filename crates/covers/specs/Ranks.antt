-- The least costs, fewest chain rules and choices of a tree, computed.
use Rattle.std.specs.Prelude.{ℕ, zero, suc, pred, Bool, false, cond, List, [], ◌∷◌, replicate, Some, None, Option, ◌==◌, slice_index_or, slice_set}
use Rattle.std.specs.declared.cmp.Ordering.{Ordering}
use Rattle.std.specs.Option.{option_map}
use Rattle.std.specs.Ordering.{is_lt, is_eq, ordering_then, nat_cmp}
use Rattle.cost.specs.Model.{Model}
use Rattle.grammar.specs.Lists.{FormOf, chain, base0, base1, base2, RuleOf, Lists}
use Rattle.covers.specs.Trees.{count, Applied, leaf, unary, binary, Tree, node0, node1, node2}

-- what is known of a cover: its cost, and how many chain rules stand at the root; the cost is compared first
abbrev pub Rank : Type 0 → Type 0
Rank C = C × ℕ

-- none or a rank, for each nonterminal
abbrev pub Ranks : Type 0 → Type 0
Ranks C = List (Option (Rank C))

abbrev pub by_rank : {C : Type 0} → Model C → Rank C → Rank C → Ordering
by_rank m p q = ordering_then (m.cmp p.0 q.0) (nat_cmp p.1 q.1)

-- what stands at n, and none past the end
abbrev pub at : {A : Type 0} → List (Option A) → ℕ → Option A
at xs n = slice_index_or xs n None

-- the new rank where it is before the old one, else the old one
abbrev pub better : {C : Type 0} → Model C → Option (Rank C) → Option (Rank C) → Option (Rank C)
better m old None = old
better m None (Some q) = Some q
better m (Some p) (Some q) = cond (is_lt (by_rank m q p)) (Some q) (Some p)

-- a rank with one chain rule more, of cost c
abbrev pub up : {C : Type 0} → Model C → C → Rank C → Rank C
up m c p = (m.sum p.0 c, suc p.1)

abbrev pub further : {C : Type 0} → Model C → C → Option (Rank C) → Option (Rank C)
further m c None = None
further m c (Some p) = Some (up m c p)

-- a base rule of cost c over the rank of one kid, and of two
abbrev pub with1 : {C : Type 0} → Model C → C → Option (Rank C) → Option (Rank C)
with1 m c None = None
with1 m c (Some p) = Some (m.sum c p.0, 0)

abbrev pub with2 : {C : Type 0} → Model C → C → Option (Rank C) → Option (Rank C) → Option (Rank C)
with2 m c None q = None
with2 m c (Some p) None = None
with2 m c (Some p) (Some q) = Some (m.sum (m.sum c p.0) q.0, 0)

-- the rank that a base rule gives to an operator with its kids' ranks: none where it is of another operator, or a kid has no cover
abbrev pub base_offer : {C : Type 0} → Model C → Applied (Ranks C) → C → FormOf → Option (Rank C)
base_offer m s c (chain x) = None
base_offer m (leaf op) c (base0 o) = cond (o == op) (Some (c, 0)) None
base_offer m (unary op k) c (base0 o) = None
base_offer m (binary op k l) c (base0 o) = None
base_offer m (leaf op) c (base1 o a) = None
base_offer m (unary op k) c (base1 o a) = cond (o == op) (with1 m c (at k a)) None
base_offer m (binary op k l) c (base1 o a) = None
base_offer m (leaf op) c (base2 o a b) = None
base_offer m (unary op k) c (base2 o a b) = None
base_offer m (binary op k l) c (base2 o a b) = cond (o == op) (with2 m c (at k a) (at l b)) None

-- the rank that a chain rule gives over the ranks so far
abbrev pub chain_offer : {C : Type 0} → Model C → Ranks C → C → FormOf → Option (Rank C)
chain_offer m xs c (chain s) = further m c (at xs s)
chain_offer m xs c (base0 o) = None
chain_offer m xs c (base1 o a) = None
chain_offer m xs c (base2 o a b) = None

-- the ranks with o at n, where it is better
abbrev pub relax : {C : Type 0} → Model C → Ranks C → ℕ → Option (Rank C) → Ranks C
relax m xs n o = slice_set xs n (better m (at xs n) o)

-- all base rules, one after another
abbrev pub bases : {C : Type 0} → Model C → Applied (Ranks C) → Ranks C → List (RuleOf C) → Ranks C
bases m s xs [] = xs
bases m s xs (ρ ∷ ρs) = bases m s (relax m xs ρ.left (base_offer m s ρ.cost ρ.form)) ρs

-- a round over all chain rules
abbrev pub round : {C : Type 0} → Model C → Ranks C → List (RuleOf C) → Ranks C
round m xs [] = xs
round m xs (ρ ∷ ρs) = round m (relax m xs ρ.left (chain_offer m xs ρ.cost ρ.form)) ρs

abbrev pub rounds : {C : Type 0} → Model C → ℕ → Ranks C → List (RuleOf C) → Ranks C
rounds m zero xs ρs = xs
rounds m (suc k) xs ρs = rounds m k (round m xs ρs) ρs

-- the ranks of an operator with its kids' ranks: the base rules, then a round for each nonterminal but one, since a run without a
-- repeated nonterminal has no more rules than that
abbrev pub ranked : {C : Type 0} → Model C → Lists C → Applied (Ranks C) → Ranks C
ranked m G s = rounds m (pred (count G)) (bases m s (replicate (count G) None) G.rules) G.rules

-- the ranks of a tree
abbrev pub ranks_of : {C : Type 0} → Model C → Lists C → Tree → Ranks C
ranks_of m G (node0 op p) = ranked m G (leaf op)
ranks_of m G (node1 op p t) = ranked m G (unary op (ranks_of m G t))
ranks_of m G (node2 op p t u) = ranked m G (binary op (ranks_of m G t) (ranks_of m G u))

-- a tree's operator with its kids' ranks
abbrev pub kid_ranks : {C : Type 0} → Model C → Lists C → Tree → Applied (Ranks C)
kid_ranks m G (node0 op p) = leaf op
kid_ranks m G (node1 op p t) = unary op (ranks_of m G t)
kid_ranks m G (node2 op p t u) = binary op (ranks_of m G t) (ranks_of m G u)

-- the rank that any rule gives
abbrev pub offer : {C : Type 0} → Model C → Applied (Ranks C) → Ranks C → C → FormOf → Option (Rank C)
offer m s xs c (chain x) = chain_offer m xs c (chain x)
offer m s xs c (base0 o) = base_offer m s c (base0 o)
offer m s xs c (base1 o a) = base_offer m s c (base1 o a)
offer m s xs c (base2 o a b) = base_offer m s c (base2 o a b)

-- whether a rank is p
abbrev pub is_rank : {C : Type 0} → Model C → Rank C → Option (Rank C) → Bool
is_rank m p None = false
is_rank m p (Some q) = is_eq (by_rank m q p)

-- whether the rule has the left side n and gives the rank p
abbrev pub offers : {C : Type 0} → Model C → Applied (Ranks C) → Ranks C → ℕ → Rank C → RuleOf C → Bool
offers m s xs n p ρ = cond (ρ.left == n) (is_rank m p (offer m s xs ρ.cost ρ.form)) false

-- the number of the first rule that passes, where the first is r; 0 if there is none
abbrev pub first_from : {C : Type 0} → (RuleOf C → Bool) → ℕ → List (RuleOf C) → ℕ
first_from f r [] = 0
first_from f r (ρ ∷ ρs) = cond (f ρ) r (first_from f (suc r) ρs)

-- what is best from one nonterminal: cost, number of chain rules at the root, and number of the rule chosen
abbrev pub Best : Type 0 → Type 0
Best C = C × ℕ × ℕ

-- the rule chosen is the first that gives the rank
abbrev pub choose : {C : Type 0} → Model C → Lists C → Applied (Ranks C) → Ranks C → ℕ → Option (Rank C) → Option (Best C)
choose m G s xs n None = None
choose m G s xs n (Some p) = Some (p.0, p.1, first_from (offers m s xs n p) 1 G.rules)

-- the choices for the nonterminals from n on, whose ranks are os
abbrev pub choices : {C : Type 0} → Model C → Lists C → Applied (Ranks C) → Ranks C → ℕ → Ranks C → List (Option (Best C))
choices m G s xs n [] = []
choices m G s xs n (o ∷ os) = choose m G s xs n o ∷ choices m G s xs (suc n) os

-- the same for each nonterminal
abbrev pub best_of : {C : Type 0} → Model C → Lists C → Applied (Ranks C) → List (Option (Best C))
best_of m G s = choices m G s (ranked m G s) 0 (ranked m G s)

-- and of a tree
abbrev pub best : {C : Type 0} → Model C → Lists C → Tree → List (Option (Best C))
best m G t = choices m G (kid_ranks m G t) (ranks_of m G t) 0 (ranks_of m G t)

-- the least cost of a tree from n, the fewest chain rules at the root and the choice, where there is a cover
abbrev pub least_cost : {C : Type 0} → Model C → Lists C → Tree → ℕ → Option C
least_cost m G t n = option_map (λ x. x.0) (at (best m G t) n)

abbrev pub fewest_chains : {C : Type 0} → Model C → Lists C → Tree → ℕ → Option ℕ
fewest_chains m G t n = option_map (λ x. x.1) (at (best m G t) n)

abbrev pub choice : {C : Type 0} → Model C → Lists C → Tree → ℕ → Option ℕ
choice m G t n = option_map (λ x. x.2) (at (best m G t) n)
