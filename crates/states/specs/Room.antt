-- When there is room for a node, and what a new node must have.
use Rattle.std.specs.Prelude.{ℕ, ◌≤◌, Bool, cond, not, ◌&&◌, List, length, Some, None, Option, nat_le, nat_lt}
use Rattle.cost.specs.Model.{Model}
use Rattle.grammar.specs.Lists.{Lists}
use Rattle.covers.specs.Trees.{Tree, size}
use Rattle.covers.specs.Rows.{row}
use Rattle.covers.specs.Held.{In, kid_trees, place, same_row, same_key, rows_held, key, keys_held}
use Rattle.label.specs.declared.refusals.NoRoom.{NoRoom}
use Rattle.label.specs.declared.refusals.NoRoom.TheVariants.{Keys, Rows}

-- whether the same as x is in the list
abbrev pub is_held : {A : Type 0} → (A → A → Bool) → List A → A → Bool
is_held same xs x = nat_lt (place same xs x) (length xs)

-- whether the key of t is held by the accepted nodes ts, and whether its row is
abbrev pub key_held : {C : Type 0} → Model C → Lists C → List Tree → Tree → Bool
key_held m G ts t = is_held same_key (keys_held m G ts) (key m G ts t)

abbrev pub row_held : {C : Type 0} → Model C → Lists C → List Tree → Tree → Bool
row_held m G ts t = is_held (same_row m) (rows_held m G ts) (row m G t)

-- why there is no room for t after the accepted nodes ts, with place for a number of keys and of rows: its key is not held, and as many
-- keys are; else its row is not held, and as many rows are; none where there is room
abbrev pub lack : {C : Type 0} → Model C → Lists C → ℕ → ℕ → List Tree → Tree → Option NoRoom
lack m G keys rows ts t =
    cond (not (key_held m G ts t) && nat_le keys (length (keys_held m G ts))) (Some Keys) (cond (not (row_held m G ts t) && nat_le rows (length (rows_held m G ts))) (Some Rows) None)

-- t is small enough for the theorems on rows, and its kids are among the accepted nodes ts
pub record Next (ts : List Tree) (t : Tree) : Type 0 where
  pub small : size t ≤ 2048
  pub before : (u : Tree) → In u (kid_trees t) → In u ts
