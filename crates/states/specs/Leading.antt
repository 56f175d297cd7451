-- The rows that the kids' labels of a key name, and the labels that keys lead to.
use Rattle.std.specs.Prelude.{◌≡◌, ℕ, cond, List, [], ◌∷◌, map, Some, None, Option, slice_index_or}
use Rattle.std.specs.List.{slice_get}
use Rattle.cost.specs.Model.{Model}
use Rattle.grammar.specs.Lists.{Lists}
use Rattle.covers.specs.Trees.{Applied, leaf, unary, binary, Tree}
use Rattle.covers.specs.Rows.{Row}
use Rattle.covers.specs.Held.{Key, same_key, In, label, key, keys_held}

-- the row of a label among the rows held; without entries where the label is not given
abbrev pub row_of_label : {C : Type 0} → List (Row C) → ℕ → Row C
row_of_label rows l = slice_index_or rows l []

-- an operator with the rows of its kids' labels
abbrev pub key_rows : {C : Type 0} → List (Row C) → Key → Applied (Row C)
key_rows rows (leaf op) = leaf op
key_rows rows (unary op a) = unary op (row_of_label rows a)
key_rows rows (binary op a b) = binary op (row_of_label rows a) (row_of_label rows b)

-- ks lists the keys held by the accepted nodes ts, each with the label of the nodes that have the key
pub record Leads {C : Type 0} (m : Model C) (G : Lists C) (ts : List Tree) (ks : List (Key × ℕ)) : Type 0 where
  pub keyed : map (λ k. k.0) ks ≡ keys_held m G ts
  pub labelled : (i : ℕ) (k : Key × ℕ) → slice_get ks i ≡ Some k → (t : Tree) × In t ts × (key m G ts t ≡ k.0) × (label m G ts t ≡ k.1)

-- the label that a key leads to, or none where the key is not in the list
abbrev pub led : List (Key × ℕ) → Key → Option ℕ
led [] k = None
led (x ∷ xs) k = cond (same_key x.0 k) (Some x.1) (led xs k)
