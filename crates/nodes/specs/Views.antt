-- What the nodes, labels and numbers of the code stand for.
use Rattle.std.specs.Prelude.{ℕ, false, List, pos, None, Option}
use Rattle.std.specs.Option.{option_map}
use Rattle.covers.specs.Nodes.{Node, node, kids}
use Rattle.applied.specs.declared.Applied.{Applied}
use Rattle.applied.specs.declared.Applied.TheVariants.{Leaf}
use Rattle.applied.specs.Views.{applied_of}
use Rattle.nodes.specs.declared.Label.{Label}
use Rattle.nodes.specs.declared.Node.{Node as CodeNode}
use Rattle.nodes.specs.declared.NodePlace.{NodePlace}
use Rattle.nodes.specs.declared.NodeNumber.{NodeNumber}

-- a node, as the lists have it: its operator with the numbers of its kids, and its payload
abbrev pub node_of : CodeNode → Node
node_of x = node (applied_of (λ (n : NodeNumber). n.0) x.top) x.payload

-- the numbers of the kids, the left one first
abbrev pub kid_list : Applied NodeNumber → List ℕ
kid_list x = kids (applied_of (λ (n : NodeNumber). n.0) x)

-- a label, as the place of a row
abbrev pub label_of : Option Label → Option ℕ
label_of o = option_map (λ (l : Label). l.0) o

-- the number of a node, as its place in the list
abbrev pub number_of : Option NodeNumber → Option ℕ
number_of o = option_map (λ (n : NodeNumber). n.0) o

-- a place as it is lent: its node is only a filler
abbrev pub unused_place : NodePlace
unused_place = record { node = record { top = Leaf (record { 0 = 0 }); payload = pos 0 }; label = None; is_kid = false }
