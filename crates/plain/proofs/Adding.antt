-- A list with one more node, and the row places with its row.
use Rattle.std.proofs.Common.{◌≡◌, ℕ, ◌+◌, ◌*◌, ◌<◌, ◌≤◌, List, [], ◌∷◌, ◌++◌, length, ℤ, Some, None, Option, sym, refl, ap, ◌∙◌, subst, inl, inr, arith}
use Rattle.std.proofs.lemmas.List.{map_push}
use Rattle.std.proofs.lemmas.Bool.{cases_lt}
use Rattle.std.specs.Option.{option_zip}
use Rattle.cost.specs.Model.{Model}
use Rattle.grammar.specs.Lists.{Lists, Declared}
use Rattle.covers.specs.Nodes.{Node, kids, Below, Listed, tree_over, subtrees_after, subtree}
use Rattle.covers.specs.Ranks.{at}
use Rattle.covers.specs.Rows.{cost_row, kid_cost_rows, cost_row_from}
use Rattle.covers.specs.Trees.{Applied, leaf, unary, binary, Tree, node0, node1, node2, count}
use Rattle.covers.proofs.CostRows.{cost_rows}
use Rattle.covers.proofs.NodeTrees.{mapped_some, zipped_some, length_more, subtrees_length, subtrees_split}
use Rattle.covers.proofs.Nths.{at_more, at_last}
use Rattle.covers.proofs.Relaxing.{some_is}
use Rattle.nodes.specs.declared.Node.{Node as CodeNode}
use Rattle.nodes.specs.declared.Nodes.{Nodes}
use Rattle.nodes.specs.Checks.{check_node}
use Rattle.nodes.specs.Meaning.{most_of, nodes_of, labels_of}
use Rattle.nodes.specs.Views.{node_of}
use Rattle.nodes.proofs.Right.{checked_room, checked_below, checked_listed}
use Rattle.row.specs.Views.{row_in}
use Rattle.row.specs.declared.work.Work.{Work}
use Rattle.plain.specs.Keeping.{no_labels, Keeps}
use Rattle.plain.specs.Rows.{row_at, rows_under, KidsKept, RowAdded}
use Rattle.plain.proofs.Moving.{ends_before}

module _ {C : Type 0} (m : Model C) (G : Lists C) (declared : Declared G) (old : Nodes) (row rows : List (Option (Work C))) (keeps : Keeps m G old row rows) where
  abbrev ns : List Node
  ns = nodes_of old

  abbrev n : ℕ
  n = count G

  -- each node has places among the earlier ones while there is room for another
  pub has_places : length ns < most_of old → (a : ℕ) → a < length ns → a * n + n ≤ length rows
  has_places room a h =
      let all = keeps.places in
      let wide = keeps.width in
      omega (arith, ends_before n a (length ns) h, ends_before n (length ns) (most_of old) room)

  module _ (room : length ns < most_of old) (ys' ys : List (Option (Work C))) (x : CodeNode) (u : ℕ) (number : u ≡ length ns) (added : RowAdded m G.rules u x row rows ys' ys) where
    abbrev w : ℕ
    w = length row

    -- the earlier places have the row of each node
    earlier_row : (a : ℕ) (t : Tree) → a < length ns → subtree ns a ≡ Some t → row_at ys n a ≡ cost_row m G t
    earlier_row a t h s =
        let wide : w ≡ n = keeps.width in
        ap (λ z. row_at ys z a) (sym wide)
        ∙ elim (cases_lt (a + 1) (length ns)) [
          | inl l ↦ added.moved.others a (omega arith) ∙ ap (λ z. row_at rows z a) wide ∙ keeps.earlier a t s l
          | inr l ↦
              let last : a + 1 ≡ length ns = omega arith in
              let fits : a * w + w ≤ length rows = subst (λ z. a * z + z ≤ length rows) (sym wide) (has_places room a h) in
              added.moved.moved a (omega arith) fits ∙ keeps.newest a t s last
        ]

    -- the rows of the kids, of the node and of its tree
    rows_are : (top : Applied ℕ) (pay : ℤ) (t : Tree) → Below (length ns) (kids top) → tree_over (subtrees_after [] ns) top pay ≡ Some t → rows_under ys n top ≡ kid_cost_rows m G t
    rows_are (leaf op) pay t b e = ap (kid_cost_rows m G) (some_is (node0 op pay) t e)
    rows_are (unary op a) pay t b e =
        let k = mapped_some (node1 op pay) (at (subtrees_after [] ns) a) t e in
        ap (unary op) (earlier_row a k.0 b.0 k.1) ∙ ap (kid_cost_rows m G) k.2
    rows_are (binary op a c) pay t b e =
        let ts = subtrees_after [] ns in
        let k = mapped_some (λ (z : Tree × Tree). node2 op pay z.0 z.1) (option_zip (at ts a) (at ts c)) t e in
        let z = zipped_some (at ts a) (at ts c) k.0 k.1 in
        let left = earlier_row a k.0.0 b.0 z.0 in
        let right = earlier_row c k.0.1 b.1.0 z.1 in
        (λ i. binary op (left i) (right i)) ∙ ap (kid_cost_rows m G) k.2

    kid_kept : (a : ℕ) → a < length ns → a * w + w ≤ length ys
    kid_kept a h =
        let long = added.sizes in
        subst (λ z. a * z + z ≤ length ys) (sym keeps.width) (omega (arith, has_places room a h))

    kids_kept : (top : Applied ℕ) → Below (length ns) (kids top) → KidsKept ys w top
    kids_kept (leaf op) b = tt
    kids_kept (unary op a) b = kid_kept a b.0
    kids_kept (binary op a c) b = (kid_kept a b.0, kid_kept c b.1.0)

    module _ (below : Below (length ns) (kids (node_of x).top)) where
      abbrev o : Option Tree
      o = tree_over (subtrees_after [] ns) (node_of x).top (node_of x).payload

      subtrees_are : subtrees_after [] (ns ++ node_of x ∷ []) ≡ subtrees_after [] ns ++ o ∷ []
      subtrees_are = subtrees_split ns (node_of x ∷ []) []

      newest_row : (t : Tree) → o ≡ Some t → row_in ys' ≡ cost_row m G t
      newest_row t e =
          let top = (node_of x).top in
          let wide : w ≡ n = keeps.width in
          let long = added.size in
          added.over (kids_kept top below) G declared refl (omega arith)
          ∙ ap (λ z. cost_row_from m G (rows_under ys z top)) wide
          ∙ ap (cost_row_from m G) (rows_are top (node_of x).payload t below e)
          ∙ sym (cost_rows m G t)

      -- the place of the last node
      last_is : (i : ℕ) → i + 1 ≡ length (ns ++ node_of x ∷ []) → i ≡ length (subtrees_after [] ns)
      last_is i h = omega (arith, length_more ns (node_of x), subtrees_length ns [])

      new_newest : (i : ℕ) (t : Tree) → subtree (ns ++ node_of x ∷ []) i ≡ Some t → i + 1 ≡ length (ns ++ node_of x ∷ []) → row_in ys' ≡ cost_row m G t
      new_newest i t s h =
          newest_row t (sym (at_last (subtrees_after [] ns) o) ∙ ap (at (subtrees_after [] ns ++ o ∷ [])) (sym (last_is i h)) ∙ ap (λ z. at z i) (sym subtrees_are) ∙ s)

      new_earlier : (i : ℕ) (t : Tree) → subtree (ns ++ node_of x ∷ []) i ≡ Some t → i + 1 < length (ns ++ node_of x ∷ []) → row_at ys n i ≡ cost_row m G t
      new_earlier i t s h =
          let before : i < length ns = omega (arith, length_more ns (node_of x)) in
          elim (at_more (subtrees_after [] ns) o i t (ap (λ z. at z i) (sym subtrees_are) ∙ s)) [
            | inl k ↦ earlier_row i t before k
            | inr k ↦ absurd (let e = k.0 in omega (arith, subtrees_length ns []))
          ]

  -- a list with a node that passed the checks
  pub keeps_more : (v : Nodes) (ys' ys : List (Option (Work C))) (x : CodeNode) (u : ℕ) → check_node G.operators (most_of old) ns (node_of x) ≡ None → u ≡ length ns
      → most_of v ≡ most_of old → nodes_of v ≡ ns ++ node_of x ∷ [] → labels_of v ≡ labels_of old ++ None ∷ []
      → RowAdded m G.rules u x row rows ys' ys → Keeps m G v ys' ys
  keeps_more v ys' ys x u passed number most nodes labels added =
      let room = checked_room G.operators (most_of old) ns (node_of x) passed in
      let below = checked_below G.operators (most_of old) ns (node_of x) passed in
      let few = keeps.few in
      let size = added.size in
      let sizes = added.sizes in
      record {
        few = omega arith;
        labels = labels ∙ ap (λ z. z ++ None ∷ []) keeps.labels ∙ sym (map_push (λ (_ : Node). None) ns (node_of x)) ∙ ap no_labels (sym nodes);
        listed = subst (Listed G.operators) (sym nodes) (checked_listed G.operators (most_of old) ns (node_of x) keeps.listed passed);
        width = size ∙ keeps.width;
        places = subst (λ z. z * n ≤ length ys' + length ys) (sym most) (omega (arith, keeps.places));
        newest = subst (λ z. (i : ℕ) (t : Tree) → subtree z i ≡ Some t → i + 1 ≡ length z → row_in ys' ≡ cost_row m G t) (sym nodes) (new_newest room ys' ys x u number added below);
        earlier = subst (λ z. (i : ℕ) (t : Tree) → subtree z i ≡ Some t → i + 1 < length z → row_at ys n i ≡ cost_row m G t) (sym nodes) (new_earlier room ys' ys x u number added below);
      }
