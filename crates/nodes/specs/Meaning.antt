-- What a list of nodes in lent places means: its nodes and their labels, in order.
use Rattle.std.specs.Prelude.{◌≡◌, ℕ, false, List, length, Option}
use Rattle.covers.specs.Nodes.{Node}
use Rattle.nodes.specs.declared.NodePlace.{NodePlace}
use Rattle.nodes.specs.declared.Nodes.{Nodes}
use Rattle.nodes.specs.declared.NodeNumber.{NodeNumber}
use Rattle.nodes.specs.Views.{number_of}
use Rattle.nodes.specs.Checks.{pushes, push_answer, push_nodes, push_labels}
use Rattle.nodes.specs.Places.{nodes_in, labels_in}

-- the lent places
abbrev pub places_of : Nodes → List NodePlace
places_of v = v.places.now

-- how many nodes the list may have, which is no more than there are places
abbrev pub most_of : Nodes → ℕ
most_of v = v.most

-- the nodes of the list, in order
abbrev pub nodes_of : Nodes → List Node
nodes_of v = nodes_in v.len (places_of v)

-- and their labels
abbrev pub labels_of : Nodes → List (Option ℕ)
labels_of v = labels_in v.len (places_of v)

-- the list v means the nodes ns with the labels ls
pub record Stands (v : Nodes) (ns : List Node) (ls : List (Option ℕ)) : Type 0 where
  pub nodes : nodes_of v ≡ ns
  pub labels : labels_of v ≡ ls

-- u has the memory of v, the same slice with as many places, and its limit
pub record Kept (v u : Nodes) : Type 0 where
  pub most : most_of u ≡ most_of v
  pub length : length (places_of u) ≡ length (places_of v)
  pub named : u.places.ghost_name ≡ v.places.ghost_name

-- What a push of x with the label l does to the list v: the answer, the list u afterwards, and that all is as it was where nothing is
-- appended.
pub record Pushed (v : Nodes) (x : Node) (l : Option ℕ) (r : Option NodeNumber) (u : Nodes) : Type 0 where
  pub answer : number_of r ≡ push_answer (most_of v) (nodes_of v) x
  pub nodes : nodes_of u ≡ push_nodes (most_of v) (nodes_of v) x
  pub labels : labels_of u ≡ push_labels (most_of v) (nodes_of v) x (labels_of v) l
  pub unchanged : pushes (most_of v) (nodes_of v) x ≡ false → u ≡ v
