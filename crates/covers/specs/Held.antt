-- The rows and the keys held by a list of accepted nodes, and their labels.
use Rattle.std.specs.Prelude.{◌≡◌, ℕ, suc, ◌<◌, Bool, true, false, cond, List, [], ◌∷◌, map, Some, None, Option, ◌==◌}
use Rattle.std.specs.List.{slice_get}
use Rattle.std.specs.Ordering.{is_eq}
use Rattle.cost.specs.Model.{Model}
use Rattle.grammar.specs.Lists.{Lists}
use Rattle.covers.specs.Trees.{Applied, leaf, unary, binary, Tree, node0, node1, node2}
use Rattle.covers.specs.Rows.{Row, row}

-- whether two entries of rows are the same, and two rows
abbrev pub same_entry : {C : Type 0} → Model C → Option (ℕ × C) → Option (ℕ × C) → Bool
same_entry m None None = true
same_entry m None (Some y) = false
same_entry m (Some x) None = false
same_entry m (Some x) (Some y) = cond (x.0 == y.0) (is_eq (m.cmp x.1 y.1)) false

abbrev pub same_row : {C : Type 0} → Model C → Row C → Row C → Bool
same_row m [] [] = true
same_row m [] (y ∷ ys) = false
same_row m (x ∷ xs) [] = false
same_row m (x ∷ xs) (y ∷ ys) = cond (same_entry m x y) (same_row m xs ys) false

-- a node's key: its operator and its kids' labels
abbrev pub Key : Type 0
Key = Applied ℕ

-- whether two keys are the same
abbrev pub same_key : Key → Key → Bool
same_key (leaf op) (leaf o) = op == o
same_key (leaf op) (unary o c) = false
same_key (leaf op) (binary o c d) = false
same_key (unary op a) (leaf o) = false
same_key (unary op a) (unary o c) = cond (op == o) (a == c) false
same_key (unary op a) (binary o c d) = false
same_key (binary op a b) (leaf o) = false
same_key (binary op a b) (unary o c) = false
same_key (binary op a b) (binary o c d) = cond (op == o) (cond (a == c) (b == d) false) false

-- the place of the first in the list that is the same as x, counted from 0; the list's length where there is none
abbrev pub place : {A : Type 0} → (A → A → Bool) → List A → A → ℕ
place same [] x = 0
place same (y ∷ ys) x = cond (same y x) 0 (suc (place same ys x))

-- the list with x put at its end, unless the same is in it already
abbrev pub put : {A : Type 0} → (A → A → Bool) → List A → A → List A
put same [] x = x ∷ []
put same (y ∷ ys) x = y ∷ cond (same y x) ys (put same ys x)

-- the list with all of xs put to it, one after another
abbrev pub put_all : {A : Type 0} → (A → A → Bool) → List A → List A → List A
put_all same ys [] = ys
put_all same ys (x ∷ xs) = put_all same (put same ys x) xs

-- the different ones of a list, in the order in which each is first met
abbrev pub different : {A : Type 0} → (A → A → Bool) → List A → List A
different same xs = put_all same [] xs

-- x stands in the list
abbrev pub In : {A : Type 0} → A → List A → Type 0
In x xs = (i : ℕ) × (slice_get xs i ≡ Some x)

-- the trees of a tree's kids
abbrev pub kid_trees : Tree → List Tree
kid_trees (node0 op p) = []
kid_trees (node1 op p t) = t ∷ []
kid_trees (node2 op p t u) = t ∷ u ∷ []

-- the accepted nodes, each given as its subtree, in order: each node's kids were accepted before it
abbrev pub Accepted : List Tree → Type 0
Accepted ts = (i : ℕ) (t : Tree) → slice_get ts i ≡ Some t → (u : Tree) → In u (kid_trees t) → (j : ℕ) × (j < i) × (slice_get ts j ≡ Some u)

-- the rows held by the accepted nodes, in the order of first need
abbrev pub rows_held : {C : Type 0} → Model C → Lists C → List Tree → List (Row C)
rows_held m G ts = different (same_row m) (map (row m G) ts)

-- the label of a node: the place of its row among the rows held
abbrev pub label : {C : Type 0} → Model C → Lists C → List Tree → Tree → ℕ
label m G ts t = place (same_row m) (rows_held m G ts) (row m G t)

-- a node's key: its operator and its kids' labels
abbrev pub key : {C : Type 0} → Model C → Lists C → List Tree → Tree → Key
key m G ts (node0 op p) = leaf op
key m G ts (node1 op p t) = unary op (label m G ts t)
key m G ts (node2 op p t u) = binary op (label m G ts t) (label m G ts u)

-- the keys held by the accepted nodes. A kid is accepted before its node, so its row is held when the node comes, and its label stays.
abbrev pub keys_held : {C : Type 0} → Model C → Lists C → List Tree → List Key
keys_held m G ts = different same_key (map (key m G ts) ts)

-- ys has each of xs once, and nothing else: its length is the number of different ones in xs
pub record Counts {A : Type 0} (xs ys : List A) : Type 0 where
  pub all : (x : A) → In x xs → In x ys
  pub only : (y : A) → In y ys → In y xs
  pub once : (i j : ℕ) (y : A) → slice_get ys i ≡ Some y → slice_get ys j ≡ Some y → i ≡ j
