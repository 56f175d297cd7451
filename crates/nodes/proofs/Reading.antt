-- What a list of nodes means: something, and one thing only.
use Rattle.std.proofs.Common.{◌≡◌, ℕ, List, Option, refl, sym, ◌∙◌}
use Rattle.covers.specs.Nodes.{Node}
use Rattle.nodes.specs.declared.Nodes.{Nodes}
use Rattle.nodes.specs.Meaning.{nodes_of, labels_of, Stands}

pub stands_now : (v : Nodes) → Stands v (nodes_of v) (labels_of v)
stands_now v = record { nodes = refl; labels = refl }

pub stands_once : (v : Nodes) (ns ms : List Node) (ls ks : List (Option ℕ)) → Stands v ns ls → Stands v ms ks → (ns ≡ ms) × (ls ≡ ks)
stands_once v ns ms ls ks p q = (sym p.nodes ∙ q.nodes, sym p.labels ∙ q.labels)
