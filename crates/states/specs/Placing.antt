-- The row of a key, worked out and kept.
use Rattle.std.specs.Prelude.{◌≡◌, ℕ, ◌<◌, ◌≤◌, List, length, Some, None, Ok, Err, Result}
use Rattle.name.specs.Outcomes.{map_ok}
use Rattle.cost.specs.Model.{Model}
use Rattle.covers.specs.Held.{put, same_row}
use Rattle.covers.specs.Rows.{Row}
use Rattle.nodes.specs.declared.Label.{Label}
use Rattle.label.specs.declared.refusals.NoRoom.{NoRoom}
use Rattle.label.specs.declared.refusals.NoRoom.TheVariants.{Rows as NoRows}
use Rattle.entries.specs.Walks.{row_place}
use Rattle.rows.specs.declared.held.Rows.{Rows}
use Rattle.rows.specs.Meaning.{rows_of}

-- an answer with the label as a number
abbrev pub label_answer : Result Label NoRoom → Result ℕ NoRoom
label_answer r = map_ok (λ (l : Label). l.0) r

-- what keeping the row x among the rows held does, where so many may be: a held one is found, and a new one is added at the end or
-- refused; where nothing is added, the memory stays as it was
pub record KeepsRow {C : Type 0} {cost eq keyed : _} (m : Model C) (v : Rows C cost eq keyed) (held : List (Row C)) (x : Row C) (most : ℕ) (r : Result ℕ NoRoom) (u : Rows C cost eq keyed) : Type 0 where
  pub known : (i : ℕ) → row_place m held x ≡ Some i → (r ≡ Ok i) × (rows_of u ≡ held)
  pub full : row_place m held x ≡ None → most ≤ length held → (r ≡ Err NoRows) × (u ≡ v)
  pub new : row_place m held x ≡ None → length held < most → (r ≡ Ok (length held)) × (rows_of u ≡ put (same_row m) held x)
