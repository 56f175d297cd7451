-- The row of a tree: for each nonterminal the chosen rule and the cost above the least.
use Rattle.std.specs.Prelude.{ℕ, cond, List, [], ◌∷◌, map, Some, None, Option}
use Rattle.std.specs.Ordering.{is_lt}
use Rattle.cost.specs.Model.{Model}
use Rattle.grammar.specs.Lists.{Lists}
use Rattle.covers.specs.Trees.{Applied, leaf, unary, binary, Tree, node0, node1, node2}
use Rattle.covers.specs.Ranks.{Rank, Ranks, Best, best_of, best}

-- for each nonterminal none, or the number of the chosen rule and the cost above the least of all
abbrev pub Row : Type 0 → Type 0
Row C = List (Option (ℕ × C))

-- the lesser of two costs
abbrev pub lesser : {C : Type 0} → Model C → C → Option C → C
lesser m c None = c
lesser m c (Some d) = cond (is_lt (m.cmp d c)) d c

-- the least of the costs
abbrev pub least_in : {C : Type 0} → Model C → List (Option (Best C)) → Option C
least_in m [] = None
least_in m (None ∷ os) = least_in m os
least_in m (Some x ∷ os) = Some (lesser m x.0 (least_in m os))

abbrev pub or_zero : {C : Type 0} → Model C → Option C → C
or_zero m None = m.zero
or_zero m (Some c) = c

-- the same, and zero where there is none
abbrev pub least_of_all : {C : Type 0} → Model C → List (Option (Best C)) → C
least_of_all m os = or_zero m (least_in m os)

-- an entry of the row, where the least of all costs is f
abbrev pub entry : {C : Type 0} → Model C → C → Option (Best C) → Option (ℕ × C)
entry m f None = None
entry m f (Some x) = Some (x.2, m.diff x.0 f)

-- the row of what is best
abbrev pub row_of : {C : Type 0} → Model C → List (Option (Best C)) → Row C
row_of m os = map (entry m (least_of_all m os)) os

-- the row of a tree
abbrev pub row : {C : Type 0} → Model C → Lists C → Tree → Row C
row m G t = row_of m (best m G t)

-- a tree's operator with its kids' rows
abbrev pub kid_rows : {C : Type 0} → Model C → Lists C → Tree → Applied (Row C)
kid_rows m G (node0 op p) = leaf op
kid_rows m G (node1 op p t) = unary op (row m G t)
kid_rows m G (node2 op p t u) = binary op (row m G t) (row m G u)

-- a row's costs above the least in place of the least costs themselves
abbrev pub as_rank : {C : Type 0} → Option (ℕ × C) → Option (Rank C)
as_rank None = None
as_rank (Some x) = Some (x.1, 0)

abbrev pub as_ranks : {C : Type 0} → Applied (Row C) → Applied (Ranks C)
as_ranks (leaf op) = leaf op
as_ranks (unary op k) = unary op (map as_rank k)
as_ranks (binary op k l) = binary op (map as_rank k) (map as_rank l)

-- the row of a node from its operator and its kids' rows alone
abbrev pub row_from : {C : Type 0} → Model C → Lists C → Applied (Row C) → Row C
row_from m G s = row_of m (best_of m G (as_ranks s))

-- a row with the least costs themselves in place of the costs above the least
abbrev pub cost_entry : {C : Type 0} → Option (Best C) → Option (ℕ × C)
cost_entry None = None
cost_entry (Some x) = Some (x.2, x.0)

-- the same of a tree
abbrev pub cost_row : {C : Type 0} → Model C → Lists C → Tree → Row C
cost_row m G t = map cost_entry (best m G t)

-- a tree's operator with such rows of its kids
abbrev pub kid_cost_rows : {C : Type 0} → Model C → Lists C → Tree → Applied (Row C)
kid_cost_rows m G (node0 op p) = leaf op
kid_cost_rows m G (node1 op p t) = unary op (cost_row m G t)
kid_cost_rows m G (node2 op p t u) = binary op (cost_row m G t) (cost_row m G u)

-- such a row of a node from its operator and such rows of its kids alone
abbrev pub cost_row_from : {C : Type 0} → Model C → Lists C → Applied (Row C) → Row C
cost_row_from m G s = map cost_entry (best_of m G (as_ranks s))
