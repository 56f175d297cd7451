-- What always holds of a plain labeller.
use Rattle.std.specs.Prelude.{◌≡◌, ℕ, ◌+◌, ◌*◌, ◌<◌, ◌≤◌, List, [], ◌∷◌, map, length, Some, None, Option}
use Rattle.std.specs.Coded.{Coded, Coded-set, coded_ℕ, coded_list, coded_option, coded×, ×_prop, Π_prop, →_prop, le_prop}
use Rattle.std.proofs.Props.{props}
use Rattle.cost.specs.Model.{Model}
use Rattle.grammar.specs.Lists.{OperatorOf, Lists}
use Rattle.covers.specs.Trees.{Tree, count}
use Rattle.covers.specs.Covers.{Apart, Distinct}
use Rattle.covers.specs.Rows.{Row, cost_row}
use Rattle.covers.specs.Nodes.{Node, Below, Listed, subtree}
use Rattle.nodes.specs.declared.Nodes.{Nodes}
use Rattle.nodes.specs.Meaning.{most_of, nodes_of, labels_of}
use Rattle.row.specs.Views.{row_in}
use Rattle.row.specs.declared.work.Work.{Work}
use Rattle.plain.specs.Rows.{row_at}

-- no node has a label
abbrev pub no_labels : List Node → List (Option ℕ)
no_labels ns = map (λ _. None) ns

-- Over the grammar G, the list v, whose nodes have no labels, and the rows of its nodes, with the least costs themselves: that of the
-- newest node in places of its own, and those of the nodes before it.
pub record Keeps {C : Type 0} (m : Model C) (G : Lists C) (v : Nodes) (row rows : List (Option (Work C))) : Type 0 where
  pub few : most_of v ≤ 2048
  pub labels : labels_of v ≡ no_labels (nodes_of v)
  pub listed : Listed G.operators (nodes_of v)
  pub width : length row ≡ count G
  pub places : most_of v * count G ≤ length row + length rows
  pub newest : (i : ℕ) (t : Tree) → subtree (nodes_of v) i ≡ Some t → i + 1 ≡ length (nodes_of v) → row_in row ≡ cost_row m G t
  pub earlier : (i : ℕ) (t : Tree) → subtree (nodes_of v) i ≡ Some t → i + 1 < length (nodes_of v) → row_at rows (count G) i ≡ cost_row m G t

-- ---- Each of these facts has one proof at most, where costs can be told apart by a code.

below_once : (n : ℕ) (xs : List ℕ) → IsProp (Below n xs)
below_once n [] = Prim.hlevel props
below_once n (x ∷ xs) = ×_prop (Prim.hlevel props) (below_once n xs)

apart_once : (n : ℕ) (xs : List ℕ) → IsProp (Apart n xs)
apart_once n [] = Prim.hlevel props
apart_once n (x ∷ xs) = ×_prop (Prim.hlevel props) (apart_once n xs)

distinct_once : (xs : List ℕ) → IsProp (Distinct xs)
distinct_once [] = Prim.hlevel props
distinct_once (x ∷ xs) = ×_prop (apart_once x xs) (distinct_once xs)

listed_once : (ops : List OperatorOf) (ns : List Node) → IsProp (Listed ops ns)
listed_once ops ns = Prim.hlevel (props, below_once, distinct_once)

same_row_once : {C : Type 0} → Coded C → (x y : Row C) → IsProp (x ≡ y)
same_row_once code x y = Coded-set (coded_list (coded_option (coded× coded_ℕ code))) x y

pub keeps_once : {C : Type 0} (code : Coded C) (m : Model C) (G : Lists C) (v : Nodes) (row rows : List (Option (Work C))) → IsProp (Keeps m G v row rows)
keeps_once code m G v row rows p q = λ i. record {
  few = le_prop p.few q.few i;
  labels = Coded-set (coded_list (coded_option coded_ℕ)) _ _ p.labels q.labels i;
  listed = listed_once G.operators (nodes_of v) p.listed q.listed i;
  width = Coded-set coded_ℕ _ _ p.width q.width i;
  places = le_prop p.places q.places i;
  newest = Π_prop (λ j. Π_prop (λ t. →_prop (→_prop (same_row_once code _ _)))) p.newest q.newest i;
  earlier = Π_prop (λ j. Π_prop (λ t. →_prop (→_prop (same_row_once code _ _)))) p.earlier q.earlier i;
}
