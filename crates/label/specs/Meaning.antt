-- What a labeller means, and what its calls do to the meaning.
use Rattle.std.specs.Prelude.{◌≡◌, ℕ, ◌≤◌, List, [], ◌∷◌, ◌++◌, length, Some, None, Ok, Err, Option, Result}
use Rattle.cost.specs.Model.{Model}
use Rattle.grammar.specs.Lists.{Lists, Sealed}
use Rattle.covers.specs.Trees.{Tree}
use Rattle.covers.specs.Ranks.{choice}
use Rattle.covers.specs.Nodes.{Node, Listed, subtree}
use Rattle.nodes.specs.declared.NodeRefusal.{NodeRefusal}
use Rattle.nodes.specs.Checks.{check_node}
use Rattle.label.specs.declared.refusals.NoRoom.{NoRoom}
use Rattle.label.specs.declared.refusals.AddRefusal.{AddRefusal}
use Rattle.label.specs.declared.refusals.AddRefusal.TheVariants.{Node as Unfit, Room}

-- the grammar and the largest number of nodes, given at birth; the nodes of the open tree, each with its label or none; how many rows
-- and keys are held; and for a next node why there is no room for it, or none where there is
pub record Meaning (C : Type 0) : Type 0 where
  pub grammar : Lists C
  pub most : ℕ
  pub nodes : List Node
  pub labels : List (Option ℕ)
  pub rows : ℕ
  pub keys : ℕ
  pub room : Node → Option NoRoom

-- what holds of every meaning: the grammar is sealed, the limits are kept, each node fits its operator and stands after its kids, no
-- node is a kid twice, and each node has its label or none
pub record Sound {C : Type 0} (m : Model C) (μ : Meaning C) : Type 0 where
  pub sealed : Sealed m μ.grammar
  pub few : μ.most ≤ 2048
  pub listed : Listed μ.grammar.operators μ.nodes
  pub within : length μ.nodes ≤ μ.most
  pub labelled : length μ.labels ≡ length μ.nodes

-- why a next node is refused: it does not pass the checks, or there is no room for it; none where it is accepted
abbrev pub by_room : Option NodeRefusal → Option NoRoom → Option AddRefusal
by_room (Some e) o = Some (Unfit e)
by_room None (Some e) = Some (Room e)
by_room None None = None

abbrev pub refusal : {C : Type 0} → Meaning C → Node → Option AddRefusal
refusal μ x = by_room (check_node μ.grammar.operators μ.most μ.nodes x) (μ.room x)

-- what stays from birth on
pub record Fixed {C : Type 0} (μ ν : Meaning C) : Type 0 where
  pub grammar : ν.grammar ≡ μ.grammar
  pub most : ν.most ≡ μ.most

-- the list of nodes became empty, and rows and keys are held as before
pub record Started {C : Type 0} (μ ν : Meaning C) : Type 0 where
  pub fixed : Fixed μ ν
  pub nodes : ν.nodes ≡ []
  pub labels : ν.labels ≡ []
  pub rows : ν.rows ≡ μ.rows
  pub keys : ν.keys ≡ μ.keys

-- the list of nodes became empty, and no row and no key is held
pub record Cleared {C : Type 0} (μ ν : Meaning C) : Type 0 where
  pub fixed : Fixed μ ν
  pub nodes : ν.nodes ≡ []
  pub labels : ν.labels ≡ []
  pub rows : ν.rows ≡ 0
  pub keys : ν.keys ≡ 0

-- x was appended with the label l
pub record Appended {C : Type 0} (μ : Meaning C) (x : Node) (l : Option ℕ) (ν : Meaning C) : Type 0 where
  pub fixed : Fixed μ ν
  pub nodes : ν.nodes ≡ μ.nodes ++ x ∷ []
  pub labels : ν.labels ≡ μ.labels ++ l ∷ []

-- what adding x answers and does, where after says what is meant afterwards: a refusal, exactly where there is a reason for one, leaves
-- the meaning as it was; else the answer is the node's number and its label, and the node is appended with that label
abbrev pub AddsBy : {C : Type 0} → Option AddRefusal → (Meaning C → Type 0) → Meaning C → Node → Result (ℕ × Option ℕ) AddRefusal → Type 0
AddsBy (Some e) after μ x r = (r ≡ Err e) × after μ
AddsBy {C} None after μ x (Ok a) = (a.0 ≡ length μ.nodes) × ((ν : Meaning C) × Appended μ x a.1 ν × after ν)
AddsBy None after μ x (Err e) = ⊥

abbrev pub Adds : {C : Type 0} → (Meaning C → Type 0) → Meaning C → Node → Result (ℕ × Option ℕ) AddRefusal → Type 0
Adds after μ x r = AddsBy (refusal μ x) after μ x r

abbrev pub choice_of : {C : Type 0} → Model C → Lists C → Option Tree → ℕ → Option ℕ
choice_of m G None n = None
choice_of m G (Some t) n = choice m G t n

-- the choice at node i from nonterminal n: none where there is no such node, or it has no cover from there
abbrev pub choice_at : {C : Type 0} → Model C → Meaning C → ℕ → ℕ → Option ℕ
choice_at m μ i n = choice_of m μ.grammar (subtree μ.nodes i) n
