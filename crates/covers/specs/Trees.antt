-- Trees of operators.
use Rattle.std.specs.Prelude.{ℕ, ◌+◌, List, length, ℤ}
use Rattle.grammar.specs.Lists.{Lists, OperatorOf, Takes}

-- how many nonterminals a grammar has
abbrev pub count : {C : Type 0} → Lists C → ℕ
count G = length G.nonterminals

-- an operator, by its number, with something for each of its kids
pub data Applied (K : Type 0) : Type 0 where
  leaf : (op : ℕ) → Applied K
  unary : (op : ℕ) (kid : K) → Applied K
  binary : (op : ℕ) (left right : K) → Applied K

-- a node's operator, its payload (a signed number; nothing here depends on it), and a tree for each kid
pub data Tree : Type 0 where
  node0 : (op : ℕ) → ℤ → Tree
  node1 : (op : ℕ) → ℤ → Tree → Tree
  node2 : (op : ℕ) → ℤ → Tree → Tree → Tree

-- how many nodes a tree has
abbrev pub size : Tree → ℕ
size (node0 op p) = 1
size (node1 op p t) = 1 + size t
size (node2 op p t u) = 1 + size t + size u

-- each operator is declared, and each node has as many kids as its operator takes
abbrev pub TreeFits : List OperatorOf → Tree → Type 0
TreeFits ops (node0 op p) = Takes ops op 0
TreeFits ops (node1 op p t) = Takes ops op 1 × TreeFits ops t
TreeFits ops (node2 op p t u) = Takes ops op 2 × TreeFits ops t × TreeFits ops u
