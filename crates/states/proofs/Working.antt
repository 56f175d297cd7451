-- The row of a key from the rows of its labels, and how it is kept.
use Rattle.std.proofs.Common.{◌≡◌, ℕ, ◌<◌, ◌≤◌, cond, List, [], map, length, get_or, is_ok, Some, None, Ok, Err, Result, unwrap_or, sym, refl, ap, ◌∙◌, arith, Bor}
use Rattle.std.proofs.lemmas.Bool.{lt-ltb, eq-eqb}
use Rattle.cost.specs.Model.{Model}
use Rattle.covers.specs.Rows.{Row, as_rank, as_ranks}
use Rattle.covers.specs.Held.{put, same_row}
use Rattle.covers.specs.Trees.{unary, binary}
use Rattle.covers.proofs.Relaxing.{some_is, none_some}
use Rattle.row.specs.Views.{applied, costs_of}
use Rattle.row.proofs.Costs.{costs_as_ranks}
use Rattle.table.specs.declared.Refusal.{Refusal}
use Rattle.table.specs.declared.Refusal.TheVariants.{Full}
use Rattle.table.specs.Keys.{put_at}
use Rattle.entries.specs.Walks.{row_place}
use Rattle.rows.specs.declared.held.Rows.{Rows}
use Rattle.rows.specs.declared.kid.HeldRow.{HeldRow}
use Rattle.rows.specs.Kids.{row_of}
use Rattle.rows.specs.Meaning.{rows_of, rows_room, room_for_row}
use Rattle.label.specs.declared.refusals.NoRoom.{NoRoom}
use Rattle.label.specs.declared.refusals.NoRoom.TheVariants.{Rows as NoRows}
use Rattle.applied.specs.declared.Applied.{Applied}
use Rattle.applied.specs.declared.Applied.TheVariants.{Leaf, Unary, Binary}
use Rattle.applied.specs.Kids.{first_in, second_in, over}
use Rattle.nodes.specs.declared.Label.{Label}
use Rattle.states.specs.Keys.{key_of}
use Rattle.states.specs.Leading.{key_rows}
use Rattle.states.specs.Placing.{KeepsRow}

-- the label that stands for a kid which is not there
abbrev pub no_label : Label
no_label = record { 0 = 0 }

-- the kids' costs are those of the rows of the labels
pub kids_ranks : {C : Type 0} (held : List (Row C)) (k : Applied Label) (x y : Bor (HeldRow C)) → row_of x.now ≡ get_or held (unwrap_or (first_in k) no_label).0 [] → row_of y.now ≡ get_or held (unwrap_or (second_in k) no_label).0 [] → applied (λ z. costs_of (row_of z)) (over k x y) ≡ as_ranks (key_rows held (key_of k))
kids_ranks held (Leaf o) x y e f = refl
kids_ranks held (Unary o a) x y e f = ap (unary o.0) (costs_as_ranks (row_of x.now) ∙ ap (map as_rank) e)
kids_ranks held (Binary o a b) x y e f = (let p = costs_as_ranks (row_of x.now) ∙ ap (map as_rank) e in let q = costs_as_ranks (row_of y.now) ∙ ap (map as_rank) f in λ i. binary o.0 (p i) (q i))

-- an answer of a put of a row, as that of keeping it
abbrev pub row_answer : Result ℕ Refusal → Result ℕ NoRoom
row_answer (Ok i) = Ok i
row_answer (Err e) = Err NoRows

module _ {C : Type 0} {cost eq keyed : _} (m : Model C) (v : Rows C cost eq keyed) (x : Row C) (most : ℕ) where
  abbrev held : List (Row C)
  held = rows_of v

  clash : {A : Type 0} → (i : ℕ) → row_place m (rows_of v) x ≡ Some i → None ≡ row_place m (rows_of v) x → A
  clash i e n = absurd (none_some i (n ∙ e))

  -- the row is held
  pub keeps_known : (i : ℕ) → Some i ≡ row_place m (rows_of v) x → KeepsRow m v (rows_of v) x most (Ok i) v
  keeps_known i e = record {
    known = λ j q. (ap (λ z. Ok z) (some_is i j (e ∙ q)), refl);
    full = λ q _. clash i (sym e) (sym q);
    new = λ q _. clash i (sym e) (sym q);
  }

  -- as many rows are held as may be
  pub keeps_full : None ≡ row_place m (rows_of v) x → most ≤ length (rows_of v) → KeepsRow m v (rows_of v) x most (Err NoRows) v
  keeps_full n few = record {
    known = λ i q. clash i q n;
    full = λ _ _. (refl, refl);
    new = λ _ q. absurd (omega arith);
  }

  -- a new row is added
  module _ (n : None ≡ row_place m (rows_of v) x) (wide : length x ≡ v.width) (room : most ≤ rows_room v) (few : length (rows_of v) < most) where
    whole : room_for_row v x ≡ rows_room v
    whole = ap (λ b. cond b (rows_room v) 0) (eq-eqb (length x) v.width wide)

    answer : put_at (row_place m held x) (length held) (room_for_row v x) ≡ Ok (length held)
    answer = ap (λ o. put_at o (length held) (room_for_row v x)) (sym n) ∙ ap (λ b. cond b (Ok (length held)) (Err Full)) (lt-ltb (length held) (room_for_row v x) (let w = whole in omega arith))

    keeps_new : (i : ℕ) (u : Rows C cost eq keyed) → Ok i ≡ put_at (row_place m (rows_of v) x) (length (rows_of v)) (room_for_row v x)
        → rows_of u ≡ put (same_row m) (rows_of v) x → KeepsRow m v (rows_of v) x most (Ok i) u
    keeps_new i u a p = record {
      known = λ j q. clash j q n;
      full = λ _ q. absurd (omega arith);
      new = λ _ _. (let b = a ∙ answer in let e : i ≡ length held = cc in ap (λ z. Ok z) e, p);
    }

    keeps_refused : {A : Type 0} (e : Refusal) → Err e ≡ put_at (row_place m (rows_of v) x) (length (rows_of v)) (room_for_row v x) → A
    keeps_refused e a = absurd (let b = a ∙ answer in let z : ◌≡◌ {A = ℕ} 0 1 = cc in omega arith)

    -- a row that is put is added, and is never refused
    pub keeps_put : (r : Result ℕ Refusal) (u : Rows C cost eq keyed) → r ≡ put_at (row_place m (rows_of v) x) (length (rows_of v)) (room_for_row v x)
        → rows_of u ≡ cond (is_ok r) (put (same_row m) (rows_of v) x) (rows_of v) → KeepsRow m v (rows_of v) x most (row_answer r) u
    keeps_put (Ok i) u a p = keeps_new i u a p
    keeps_put (Err e) u a p = keeps_refused e a
