-- What is proved of covers, rows and labels, for every sealed grammar, every lawful cost and every tree of at most 2,048 nodes.
use Rattle.std.specs.Prelude.{◌≡◌, ℕ, ◌*◌, ◌<◌, ◌≤◌, ◌↔◌, List, ◌++◌, map, length, ℤ, Some, None}
use Rattle.std.specs.List.{slice_get}
use Rattle.cost.specs.Model.{Model}
use Rattle.grammar.specs.Lists.{OperatorOf, Lists, Sealed}
use Rattle.covers.specs.Trees.{count, leaf, unary, binary, Tree, node0, node1, node2, size, TreeFits}
use Rattle.covers.specs.Covers.{Cover, Covers, cover_cost, chain_count, Least, Fewest, Chooses, LeastOfAll}
use Rattle.covers.specs.Ranks.{at, least_cost, fewest_chains, choice}
use Rattle.covers.specs.Rows.{row, row_from, cost_row, kid_cost_rows, cost_row_from}
use Rattle.covers.specs.Steps.{chosen, Follows, step_count, steps, total}
use Rattle.covers.specs.Nodes.{Node, Listed, Subtree, subtree}
use Rattle.covers.specs.Held.{In, Counts, Accepted, put_all, same_row, same_key, rows_held, label, key, keys_held}

-- t has no cover from n
abbrev pub NoCover : {C : Type 0} → Lists C → Tree → ℕ → Type 0
NoCover G t n = (k : Cover) → Covers G k t n → ⊥

-- a tree that has a cover fits its operators
abbrev pub CoveredFits : {C : Type 0} → Model C → Type 0
CoveredFits {C} m = (G : Lists C) → Sealed m G → (t : Tree) (k : Cover) (n : ℕ) → Covers G k t n → TreeFits G.operators t

-- the computed least cost, number of chain rules and choice are the defined ones, and there is none exactly where there is no cover
pub record Right {C : Type 0} (m : Model C) (G : Lists C) (t : Tree) (n : ℕ) : Type 0 where
  pub none : (least_cost m G t n ≡ None) ↔ NoCover G t n
  pub no_fewest : (fewest_chains m G t n ≡ None) ↔ NoCover G t n
  pub no_choice : (choice m G t n ≡ None) ↔ NoCover G t n
  pub least : (c : C) → (least_cost m G t n ≡ Some c) ↔ Least m G t n c
  pub fewest : (d : ℕ) → (fewest_chains m G t n ≡ Some d) ↔ Fewest m G t n d
  pub chosen : (r : ℕ) → (choice m G t n ≡ Some r) ↔ Chooses m G t n r

abbrev pub BestIsRight : {C : Type 0} → Model C → Type 0
BestIsRight {C} m = (G : Lists C) → Sealed m G → (t : Tree) → size t ≤ 2048 → (n : ℕ) → Right m G t n

-- r is the choice from n, and x is the least cost from n above the least of all
pub record EntryIs {C : Type 0} (m : Model C) (G : Lists C) (t : Tree) (n r : ℕ) (x : C) : Type 0 where
  pub cost : C
  pub lowest : C
  pub chosen : Chooses m G t n r
  pub least : Least m G t n cost
  pub least_of_all : LeastOfAll m G t lowest
  pub above : m.diff cost lowest ≡ x

-- a row has an entry for each nonterminal: none exactly where there is no cover, else the choice and the cost above the least
pub record RowRight {C : Type 0} (m : Model C) (G : Lists C) (t : Tree) : Type 0 where
  pub long : length (row m G t) ≡ count G
  pub none : (n : ℕ) → (at (row m G t) n ≡ None) ↔ NoCover G t n
  pub some : (n r : ℕ) (x : C) → (at (row m G t) n ≡ Some (r, x)) ↔ EntryIs m G t n r x

abbrev pub RowsAreRight : {C : Type 0} → Model C → Type 0
RowsAreRight {C} m = (G : Lists C) → Sealed m G → (t : Tree) → size t ≤ 2048 → RowRight m G t

-- the steps of a cover: one for each rule and at most 32 for each node; their rules' costs add up to what the cover costs; and
-- covers with the same steps are the same
pub record StepsRight {C : Type 0} (m : Model C) (G : Lists C) (t : Tree) (n : ℕ) (k : Cover) : Type 0 where
  pub count : length (steps t k) ≡ step_count k
  pub few : length (steps t k) ≤ 32 * size t
  pub adds_up : total m G (steps t k) ≡ cover_cost m G k
  pub determine : (u : Tree) (o : ℕ) (j : Cover) → Covers G j u o → steps t k ≡ steps u j → k ≡ j

abbrev pub StepsAreRight : {C : Type 0} → Model C → Type 0
StepsAreRight {C} m = (G : Lists C) → Sealed m G → (t : Tree) → size t ≤ 2048 → (k : Cover) (n : ℕ) → Covers G k t n → StepsRight m G t n k

-- the chosen cover exists exactly where some cover does; it is the one cover each of whose rules is the choice where it stands; it
-- costs the least cost, with the fewest chain rules at the root
pub record ChosenRight {C : Type 0} (m : Model C) (G : Lists C) (t : Tree) (n : ℕ) : Type 0 where
  pub none : (chosen m G t n ≡ None) ↔ NoCover G t n
  pub is : (k : Cover) → (chosen m G t n ≡ Some k) ↔ (Covers G k t n × Follows m G k t n)
  pub least : (k : Cover) → chosen m G t n ≡ Some k → Least m G t n (cover_cost m G k)
  pub fewest : (k : Cover) → chosen m G t n ≡ Some k → Fewest m G t n (chain_count k)

abbrev pub ChosenIsRight : {C : Type 0} → Model C → Type 0
ChosenIsRight {C} m = (G : Lists C) → Sealed m G → (t : Tree) → size t ≤ 2048 → (n : ℕ) → ChosenRight m G t n

-- the row of a node without kids depends on its operator alone
abbrev pub LeafRows : {C : Type 0} → Model C → Type 0
LeafRows {C} m = (G : Lists C) → Sealed m G → (op : ℕ) (p : ℤ) → row m G (node0 op p) ≡ row_from m G (leaf op)

-- and of a node with kids, on its operator and its kids' rows alone
pub record RowsFrom {C : Type 0} (m : Model C) (G : Lists C) : Type 0 where
  pub one : (op : ℕ) (p : ℤ) (t : Tree) → size (node1 op p t) ≤ 2048 → row m G (node1 op p t) ≡ row_from m G (unary op (row m G t))
  pub two : (op : ℕ) (p : ℤ) (t u : Tree) → size (node2 op p t u) ≤ 2048 → row m G (node2 op p t u) ≡ row_from m G (binary op (row m G t) (row m G u))

abbrev pub InnerRows : {C : Type 0} → Model C → Type 0
InnerRows {C} m = (G : Lists C) → Sealed m G → RowsFrom m G

-- the row with the least costs themselves depends in the same way on the operator and such rows of the kids
abbrev pub CostRows : {C : Type 0} → Model C → Type 0
CostRows {C} m = (G : Lists C) (t : Tree) → cost_row m G t ≡ cost_row_from m G (kid_cost_rows m G t)

-- two trees with equal rows have from each nonterminal both covers or neither, and the same choice; and their least costs differ by
-- the difference of the least of all
pub record Alike {C : Type 0} (m : Model C) (G : Lists C) (t u : Tree) (n : ℕ) : Type 0 where
  pub covers : ((k : Cover) × Covers G k t n) ↔ ((k : Cover) × Covers G k u n)
  pub chosen : (r : ℕ) → Chooses m G t n r ↔ Chooses m G u n r
  pub differ : (c d f g : C) → Least m G t n c → Least m G u n d → LeastOfAll m G t f → LeastOfAll m G u g → m.diff c d ≡ m.diff f g

abbrev pub EqualRows : {C : Type 0} → Model C → Type 0
EqualRows {C} m = (G : Lists C) → Sealed m G → (t u : Tree) → size t ≤ 2048 → size u ≤ 2048 → row m G t ≡ row m G u → (n : ℕ) → Alike m G t u n

-- labels of accepted nodes are equal exactly when the rows are; a label is the place of the node's row among the rows held; and
-- rows held and keys held count the different rows and keys
pub record LabelsRight {C : Type 0} (m : Model C) (G : Lists C) (ts : List Tree) : Type 0 where
  pub same : (t u : Tree) → In t ts → In u ts → (label m G ts t ≡ label m G ts u) ↔ (row m G t ≡ row m G u)
  pub stands : (t : Tree) → In t ts → slice_get (rows_held m G ts) (label m G ts t) ≡ Some (row m G t)
  pub rows : Counts (map (row m G) ts) (rows_held m G ts)
  pub keys : Counts (map (key m G ts) ts) (keys_held m G ts)

abbrev pub LabelsAreRight : {C : Type 0} → Model C → Type 0
LabelsAreRight {C} m = (G : Lists C) (ts : List Tree) → LabelsRight m G ts

-- nodes that are accepted later change no label and no key, and add their own rows and keys
pub record LabelsStay {C : Type 0} (m : Model C) (G : Lists C) (ts us : List Tree) : Type 0 where
  pub labels : (t : Tree) → In t ts → label m G (ts ++ us) t ≡ label m G ts t
  pub keys : (t : Tree) → In t ts → key m G (ts ++ us) t ≡ key m G ts t
  pub rows_held_more : rows_held m G (ts ++ us) ≡ put_all (same_row m) (rows_held m G ts) (map (row m G) us)
  pub keys_held_more : keys_held m G (ts ++ us) ≡ put_all same_key (keys_held m G ts) (map (key m G (ts ++ us)) us)

abbrev pub AcceptedLabelsStay : {C : Type 0} → Model C → Type 0
AcceptedLabelsStay {C} m = (G : Lists C) (ts us : List Tree) → Accepted ts → LabelsStay m G ts us

-- in a list of nodes each node has one subtree, which fits its operators, has no more nodes than the list, and stays as the list
-- grows
pub record SubtreesRight (ops : List OperatorOf) (ns : List Node) : Type 0 where
  pub each : (i : ℕ) → i < length ns → (t : Tree) × (subtree ns i ≡ Some t)
  pub is : (i : ℕ) (t : Tree) → (subtree ns i ≡ Some t) ↔ Subtree ns i t
  pub fits : (i : ℕ) (t : Tree) → subtree ns i ≡ Some t → TreeFits ops t
  pub small : (i : ℕ) (t : Tree) → subtree ns i ≡ Some t → size t ≤ length ns
  pub stays : (more : List Node) (i : ℕ) (t : Tree) → subtree ns i ≡ Some t → subtree (ns ++ more) i ≡ Some t

abbrev pub SubtreesAreRight : Type 0
SubtreesAreRight = (ops : List OperatorOf) (ns : List Node) → Listed ops ns → SubtreesRight ops ns
