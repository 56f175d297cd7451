-- A tree, or several, as a list of nodes.
use Rattle.std.specs.Prelude.{◌≡◌, ℕ, ◌<◌, List, [], ◌∷◌, ◌++◌, length, ℤ, Some, Option}
use Rattle.std.specs.List.{slice_get}
use Rattle.std.specs.Option.{option_map, option_zip}
use Rattle.grammar.specs.Lists.{OperatorOf, Takes}
use Rattle.covers.specs.Trees.{Applied, leaf, unary, binary, Tree, node0, node1, node2}
use Rattle.covers.specs.Covers.{Distinct}
use Rattle.covers.specs.Ranks.{at}

-- a node: its operator with the numbers of its kids, and its payload. Nodes are numbered from 0 by their place in the list.
pub record Node : Type 0 where
  pub top : Applied ℕ
  pub payload : ℤ

abbrev pub node : Applied ℕ → ℤ → Node
node x p = record { top = x; payload = p }

-- the operator, and what stands for the kids
abbrev pub operator : {K : Type 0} → Applied K → ℕ
operator (leaf op) = op
operator (unary op a) = op
operator (binary op a b) = op

abbrev pub kids : {K : Type 0} → Applied K → List K
kids (leaf op) = []
kids (unary op a) = a ∷ []
kids (binary op a b) = a ∷ b ∷ []

-- the numbers of all nodes that are kids
abbrev pub all_kids : List Node → List ℕ
all_kids [] = []
all_kids (x ∷ xs) = kids x.top ++ all_kids xs

-- each of the numbers is below n
abbrev pub Below : ℕ → List ℕ → Type 0
Below n [] = Unit {0}
Below n (x ∷ xs) = (x < n) × Below n xs

-- each node has as many kids as its operator takes, its kids' numbers are below its own, and no node is a kid twice
pub record Listed (ops : List OperatorOf) (ns : List Node) : Type 0 where
  pub fits : (i : ℕ) (x : Node) → slice_get ns i ≡ Some x → Takes ops (operator x.top) (length (kids x.top))
  pub below : (i : ℕ) (x : Node) → slice_get ns i ≡ Some x → Below i (kids x.top)
  pub once : Distinct (all_kids ns)

-- t is the subtree of node i: the node and all below
abbrev pub Subtree : List Node → ℕ → Tree → Type 0
Subtree ns i (node0 op p) = slice_get ns i ≡ Some (node (leaf op) p)
Subtree ns i (node1 op p t) = (a : ℕ) × (slice_get ns i ≡ Some (node (unary op a) p)) × Subtree ns a t
Subtree ns i (node2 op p t u) = (a b : ℕ) × (slice_get ns i ≡ Some (node (binary op a b) p)) × Subtree ns a t × Subtree ns b u

-- a node's subtree from the subtrees of the nodes before it
abbrev pub tree_over : List (Option Tree) → Applied ℕ → ℤ → Option Tree
tree_over ts (leaf op) p = Some (node0 op p)
tree_over ts (unary op a) p = option_map (node1 op p) (at ts a)
tree_over ts (binary op a b) p = option_map (λ z. node2 op p z.0 z.1) (option_zip (at ts a) (at ts b))

-- the subtrees of the nodes ns after nodes with the subtrees ts
abbrev pub subtrees_after : List (Option Tree) → List Node → List (Option Tree)
subtrees_after ts [] = ts
subtrees_after ts (x ∷ ns) = subtrees_after (ts ++ tree_over ts x.top x.payload ∷ []) ns

-- the subtree of node i, computed
abbrev pub subtree : List Node → ℕ → Option Tree
subtree ns i = at (subtrees_after [] ns) i
