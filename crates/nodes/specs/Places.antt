-- What the first places of the lent memory mean: nodes and their labels, in order, and which of the nodes are kids.
use Rattle.std.specs.Prelude.{◌≡◌, ℕ, ◌<◌, false, ◌||◌, List, map, length, take, Option, slice_index_or, slice_set}
use Rattle.covers.specs.Nodes.{Node, all_kids}
use Rattle.nodes.specs.declared.Label.{Label}
use Rattle.nodes.specs.declared.Node.{Node as CodeNode}
use Rattle.nodes.specs.declared.NodePlace.{NodePlace}
use Rattle.nodes.specs.Views.{kid_list, node_of, label_of}
use Rattle.nodes.specs.Checks.{among}

-- the nodes in the first n places, in order
abbrev pub nodes_in : ℕ → List NodePlace → List Node
nodes_in n xs = map (λ (p : NodePlace). node_of p.node) (take n xs)

-- and their labels
abbrev pub labels_in : ℕ → List NodePlace → List (Option ℕ)
labels_in n xs = map (λ (p : NodePlace). label_of p.label) (take n xs)

-- each of the first n places is marked exactly where its node is a kid of one of them
abbrev pub MarksKids : ℕ → List NodePlace → Type 0
MarksKids n xs = (d : NodePlace) (i : ℕ) → i < n → (slice_index_or xs i d).is_kid ≡ among i (all_kids (nodes_in n xs))

-- From the places xs, the places ys once the kids ks are marked.
pub record Marked (xs : List NodePlace) (ks : List ℕ) (ys : List NodePlace) : Type 0 where
  pub size : length ys ≡ length xs
  pub nodes : map (λ (p : NodePlace). node_of p.node) ys ≡ map (λ (p : NodePlace). node_of p.node) xs
  pub labels : map (λ (p : NodePlace). label_of p.label) ys ≡ map (λ (p : NodePlace). label_of p.label) xs
  pub marks : (d : NodePlace) (i : ℕ) → i < length xs → (slice_index_or ys i d).is_kid ≡ ((slice_index_or xs i d).is_kid || among i ks)

-- a place with a node that is no kid
abbrev pub placed : CodeNode → Option Label → NodePlace
placed x l = record { node = x; label = l; is_kid = false }

-- From the places xs, the places ys once x is put into place n and its kids are marked.
abbrev pub Stored : List NodePlace → ℕ → CodeNode → Option Label → List NodePlace → Type 0
Stored xs n x l ys = Marked (slice_set xs n (placed x l)) (kid_list x.top) ys
