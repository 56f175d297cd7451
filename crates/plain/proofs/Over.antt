-- The row of a node from the rows of its kids.
use Rattle.std.proofs.Common.{◌≡◌, ℕ, ◌+◌, ◌*◌, ◌≤◌, List, map, length, Some, Option, refl, ap, ◌∙◌, Bor}
use Rattle.covers.specs.Trees.{unary, binary}
use Rattle.covers.specs.Rows.{as_rank, as_ranks}
use Rattle.applied.specs.declared.Applied.{Applied}
use Rattle.applied.specs.declared.Applied.TheVariants.{Leaf, Unary, Binary}
use Rattle.applied.specs.Kids.{first_in, second_in, over}
use Rattle.applied.specs.Views.{applied_of}
use Rattle.nodes.specs.declared.NodeNumber.{NodeNumber}
use Rattle.row.specs.Views.{row_in, costs_of, no_chains, applied}
use Rattle.row.specs.declared.work.Work.{Work}
use Rattle.row.proofs.Costs.{costs_as_ranks}
use Rattle.plain.specs.declared.kept.KeptRow.{KeptRow}
use Rattle.plain.specs.Rows.{row_at, rows_under, KidsKept}

module _ {C : Type 0} (places : List (Option (Work C))) (n : ℕ) where
  -- the row r is that of kid o, where there is one and its row has its places
  abbrev pub RowOf : Option NodeNumber → KeptRow C → Type 0
  RowOf o r = (k : NodeNumber) → o ≡ Some k → k.0 * n + n ≤ length places → row_in r.places.now ≡ row_at places n k.0

  abbrev pub costs_in : KeptRow C → List (Option C)
  costs_in k = costs_of (row_in k.places.now)

  one_kid : (a : NodeNumber) (o : Option NodeNumber) (x : KeptRow C) → RowOf o x → o ≡ Some a → a.0 * n + n ≤ length places
      → map no_chains (costs_in x) ≡ map as_rank (row_at places n a.0)
  one_kid a o x h e k = costs_as_ranks (row_in x.places.now) ∙ ap (map as_rank) (h a e k)

  pub rows_of_kids : (top : Applied NodeNumber) (x y : Bor (KeptRow C)) → RowOf (first_in top) x.now → RowOf (second_in top) y.now → KidsKept places n (applied_of (λ (k : NodeNumber). k.0) top)
      → applied costs_in (over top x y) ≡ as_ranks (rows_under places n (applied_of (λ (k : NodeNumber). k.0) top))
  rows_of_kids (Leaf op) x y f s k = refl
  rows_of_kids (Unary op a) x y f s k = ap (λ z. unary op.0 z) (one_kid a (first_in (Unary op a)) x.now f refl k)
  rows_of_kids (Binary op a b) x y f s k =
      let l = one_kid a (first_in (Binary op a b)) x.now f refl k.0 in
      let r = one_kid b (second_in (Binary op a b)) y.now s refl k.1 in
      λ i. binary op.0 (l i) (r i)
