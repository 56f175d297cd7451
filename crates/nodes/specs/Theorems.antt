-- The checks let in exactly the nodes with which the list stays right.
use Rattle.std.specs.Prelude.{◌≡◌, ℕ, ◌<◌, ◌↔◌, List, [], ◌∷◌, ◌++◌, length, None}
use Rattle.grammar.specs.Lists.{OperatorOf}
use Rattle.covers.specs.Nodes.{Node, Listed}
use Rattle.nodes.specs.Checks.{check_node}

-- A node passes the checks exactly where the list has room and stays right with it: each node has as many kids as its operator takes,
-- its kids stand before it, and no node is a kid twice.
abbrev pub ChecksAreRight : Type 0
ChecksAreRight = (ops : List OperatorOf) (most : ℕ) (ns : List Node) (x : Node) → Listed ops ns
    → (check_node ops most ns x ≡ None) ↔ (Listed ops (ns ++ x ∷ []) × (length ns < most))
