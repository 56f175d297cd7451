-- What was asked of an automaton since it was made, and what follows of rows, keys, labels and room.
use Rattle.std.specs.Prelude.{ℕ, List, [], ◌∷◌, ◌++◌, map, Some, None, Ok, Err, Option, Result}
use Rattle.std.specs.Option.{option_map}
use Rattle.cost.specs.Model.{Model}
use Rattle.grammar.specs.Lists.{Lists}
use Rattle.covers.specs.Trees.{Applied, leaf, unary, binary, Tree}
use Rattle.covers.specs.Ranks.{at}
use Rattle.covers.specs.Nodes.{Node, tree_over, subtrees_after}
use Rattle.covers.specs.Held.{Key, label}
use Rattle.label.specs.declared.refusals.NoRoom.{NoRoom}
use Rattle.states.specs.Room.{lack}

-- a call that may change the automaton
pub data Event : Type 0 where
  -- a new tree was begun
  started : Event
  -- rows and keys were forgotten, and the nodes too
  cleared : Event
  -- a node was accepted
  added : Node → Event
  -- a node was refused
  refused : Node → Event

-- the events since the automaton was made, the newest first
abbrev pub History : Type 0
History = List Event

-- the nodes of the open tree: those accepted since the last start or clear, in order
abbrev pub open_nodes : History → List Node
open_nodes [] = []
open_nodes (started ∷ h) = []
open_nodes (cleared ∷ h) = []
open_nodes (added x ∷ h) = open_nodes h ++ x ∷ []
open_nodes (refused x ∷ h) = open_nodes h

-- the subtree of each node of the open tree
abbrev pub open_trees : History → List (Option Tree)
open_trees h = subtrees_after [] (open_nodes h)

-- the subtree of a next node
abbrev pub new_tree : History → Node → Option Tree
new_tree h x = tree_over (open_trees h) x.top x.payload

abbrev pub as_list : {A : Type 0} → Option A → List A
as_list None = []
as_list (Some x) = x ∷ []

-- the nodes accepted since the last clear, each as its subtree, in order
abbrev pub accepted : History → List Tree
accepted [] = []
accepted (started ∷ h) = accepted h
accepted (cleared ∷ h) = []
accepted (added x ∷ h) = accepted h ++ as_list (new_tree h x)
accepted (refused x ∷ h) = accepted h

-- the labels of the nodes of the open tree
abbrev pub open_labels : {C : Type 0} → Model C → Lists C → History → List (Option ℕ)
open_labels m G h = map (option_map (label m G (accepted h))) (open_trees h)

-- a number, and 0 where there is none
abbrev pub or_0 : Option ℕ → ℕ
or_0 None = 0
or_0 (Some n) = n

-- the label of a kid, none where there is no kid
abbrev pub at_kid : List (Option ℕ) → Option ℕ → Option ℕ
at_kid ls None = None
at_kid ls (Some n) = at ls n

-- the key of a node from the labels of the nodes of the open tree
abbrev pub key_by : List (Option ℕ) → Applied ℕ → Key
key_by ls (leaf op) = leaf op
key_by ls (unary op a) = unary op (or_0 (at ls a))
key_by ls (binary op a b) = binary op (or_0 (at ls a)) (or_0 (at ls b))

-- why there is no room for a next node, with place for so many keys and rows; none where there is room, or the node has no subtree
abbrev pub lack_of : {C : Type 0} → Model C → Lists C → ℕ → ℕ → List Tree → Option Tree → Option NoRoom
lack_of m G keys rows ts None = None
lack_of m G keys rows ts (Some t) = lack m G keys rows ts t

abbrev pub room_after : {C : Type 0} → Model C → Lists C → ℕ → ℕ → History → Node → Option NoRoom
room_after m G keys rows h x = lack_of m G keys rows (accepted h) (new_tree h x)

-- the event of adding x, by the answer
abbrev pub event : {A E : Type 0} → Node → Result A E → Event
event x (Ok a) = added x
event x (Err e) = refused x
