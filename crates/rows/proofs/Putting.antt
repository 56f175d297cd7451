-- What a put of a row does, by what is held.
use Rattle.std.proofs.Common.{◌≡◌, ℕ, zero, suc, ◌+◌, ◌*◌, ◌/◌, ◌<◌, ◌≤◌, min, Bool, true, false, cond, eqb, ltb, ◌⊎◌, List, [], ◌∷◌, ◌++◌, length, is_ok, Some, None, Ok, Err, Option, Result, sym, ap, ◌∙◌, subst, ⊎_elim, true≢false, add-mul, one-mul, le-div_iff_mul-le, arith}
use Rattle.std.proofs.lemmas.Bool.{lt-ltb, le-ltb, eq-eqb, ne_eqb, cases_eq}
use Rattle.cost.specs.Model.{Model, Laws}
use Rattle.covers.specs.Held.{put, same_row}
use Rattle.covers.specs.Rows.{Row}
use Rattle.table.specs.declared.Refusal.{Refusal}
use Rattle.table.specs.declared.Refusal.TheVariants.{Full}
use Rattle.table.specs.Keys.{place_of, put_answer, put_keys, put_at, adds_at}
use Rattle.table.specs.Tables.{keys_of, room_of}
use Rattle.table.proofs.Places.{put_new}
use Rattle.entries.specs.declared.Entry.{Entry}
use Rattle.entries.specs.declared.RowEnd.{RowEnd}
use Rattle.entries.specs.Keys.{end_key}
use Rattle.entries.specs.Walks.{Keeps, row_place, rows_from, walk}
use Rattle.entries.proofs.Seen.{put_unseen}
use Rattle.entries.proofs.Keeping.{end_at, kept_rows, keeps_count, keeps_more, keeps_own, places, map_kept}
use Rattle.rows.specs.declared.held.Rows.{Rows}
use Rattle.rows.specs.Laying.{LaysRow}
use Rattle.rows.specs.Meaning.{rows_in, rows_of, rows_room, room_for_row}

-- what a row that is added does to the entries and ends
pub record Added {C : Type 0} (m : Model C) (w : ℕ) (rows : List (Row C)) (x : Row C) (fs : List (Entry C)) (ps : List RowEnd) (r : Result ℕ Refusal) : Type 0 where
  pub answer : r ≡ Ok (length rows)
  pub keeps : Keeps m w fs ps (rows ++ x ∷ [])

module _ {C : Type 0} {cost eq keyed : _} {m : Model C} (l : Laws m) (v : Rows C cost eq keyed) (k : Keeps m v.width (keys_of v.entries) (keys_of v.ends) (rows_of v)) (x : Row C) where
  abbrev pub rows : List (Row C)
  rows = rows_of v

  room_zero : (length x ≡ v.width → ⊥) → room_for_row v x ≡ 0
  room_zero n = ap (λ b. cond b (rows_room v) 0) (ne_eqb (length x) v.width n)

  room_whole : length x ≡ v.width → room_for_row v x ≡ rows_room v
  room_whole e = ap (λ b. cond b (rows_room v) 0) (eq-eqb (length x) v.width e)

  -- the row is not held, and there is no room for it
  full : room_for_row v x ≤ length rows → None ≡ row_place m rows x → Err Full ≡ put_at (row_place m rows x) (length rows) (room_for_row v x)
  full few e =
      sym (ap (λ b. cond b (Ok (length rows)) (Err Full)) (le-ltb (length rows) (room_for_row v x) few)) ∙ ap (λ o. put_at o (length rows) (room_for_row v x)) e

  pub puts_full : (length x ≡ v.width → ⊥) ⊎ (rows_room v ≤ length rows) → None ≡ row_place m rows x → Err Full ≡ put_at (row_place m rows x) (length rows) (room_for_row v x)
  puts_full s e =
      full
      (⊎_elim
      (λ (n : length x ≡ v.width → ⊥). (let z = room_zero n in omega arith))
      (λ (few : rows_room v ≤ length rows).
      ⊎_elim
      (λ (q : length x ≡ v.width). (let z = room_whole q in omega arith))
      (λ (q : length x ≡ v.width → ⊥). (let z = room_zero q in omega arith))
      (cases_eq (length x) v.width))
      s)
      e

  -- there is room
  module _ (wide : length x ≡ v.width) (few : length rows < rows_room v) where
    ends_room_by : (s e w : ℕ) (b : Bool) → length rows < cond b s (min s (e / w)) → length rows < s
    ends_room_by s e w true q = q
    ends_room_by s e w false q = omega arith

    ends_room : length rows < room_of v.ends
    ends_room = ends_room_by (room_of v.ends) (room_of v.entries) v.width (eqb v.width 0) few

    entries_by : (s e w : ℕ) → length rows < rows_in s e w → length rows * w + w ≤ e
    entries_by s e zero q = (let a = mul_none (length rows) in omega arith)
      where
        mul_none : (k : ℕ) → k * zero ≡ 0
        mul_none k = omega arith
    entries_by s e (suc w) q =
        let other : suc w ≡ 0 → ⊥ = λ z. omega arith in
        let part : rows_in s e (suc w) ≡ min s (e / suc w) = ap (λ b. cond b s (min s (e / suc w))) (ne_eqb (suc w) 0 other) in
        let d : length rows + 1 ≤ e / suc w = omega arith in
        let p : 0 < suc w = omega arith in
        let k = (le-div_iff_mul-le {k = suc w} {x = length rows + 1} {y = e} p).0 d in
        let f : (length rows + 1) * suc w ≡ length rows * suc w + suc w = add-mul (length rows) 1 (suc w) ∙ ap (λ z. length rows * suc w + z) (one-mul (suc w)) in
        omega arith

    -- and the entries find place
    pub entries_room : length (keys_of v.entries) + length x ≤ room_of v.entries
    entries_room =
        let a = entries_by (room_of v.ends) (room_of v.entries) v.width few in
        let b = k.few in
        omega arith

    -- so the entries are not refused
    pub not_refused : (n : ℕ) → length x ≡ n → (fs : List (Entry C)) (e : Refusal)
        → (length (keys_of v.entries) + n ≤ room_of v.entries → LaysRow m (keys_of v.entries) fs x (Err e)) → ⊥
    not_refused n q fs e laid =
        let s = entries_room in
        let a = (laid (omega arith)).answer in
        let z : ◌≡◌ {A = ℕ} 0 1 = cc in
        omega arith

    -- a row that is not held is added
    pub added : None ≡ row_place m rows x → (fs : List (Entry C)) (end : Option ℕ) → (n : ℕ) → length x ≡ n
        → (length (keys_of v.entries) + n ≤ room_of v.entries → LaysRow m (keys_of v.entries) fs x (Ok end)) → (r : Result ℕ Refusal) → r ≡ put_answer end_key (room_of v.ends) (keys_of v.ends) (end_at end)
        → (ps : List RowEnd) → ps ≡ put_keys end_key (room_of v.ends) (keys_of v.ends) (end_at end) → Added m v.width rows x fs ps r
    added new fs end n long lays r a ps q =
        let es = keys_of v.entries in
        let s = entries_room in
        let laid = lays (omega arith) in
        let ends = keys_of v.ends in
        let e : laid.end ≡ end = (let a = laid.answer in cc) in
        let walked : walk m fs None x ≡ Some end = laid.walked ∙ ap (λ z. Some z) e in
        let kept = map_kept (walk m es None) (walk m fs None) laid.grows ends rows k.ended in
        let absent : place_of end_key ends (end_at end) ≡ None = places l v.width fs x end wide walked ends rows kept k.wide ∙ sym new in
        let c = keeps_count v.width es ends rows k in
        let space : length ends < room_of v.ends = (let s = ends_room in omega arith) in
        let P = put_new end_key (room_of v.ends) ends (end_at end) absent space in
        record {
          answer = a ∙ P.0 ∙ ap (λ z. Ok z) c;
          keeps = subst (λ z. Keeps m v.width fs z (rows ++ x ∷ [])) (sym (q ∙ P.2)) (keeps_more v.width es fs ends rows k x end laid.grows (let f = laid.few in omega arith) wide walked);
        }

    -- and the call answers and leaves what it should
    module _ (new : None ≡ row_place m rows x) (fs : List (Entry C)) (ps : List RowEnd) (r : Result ℕ Refusal) (d : Added m v.width rows x fs ps r) where
      whole : ltb (length rows) (room_for_row v x) ≡ true
      whole = (let e = room_whole wide in lt-ltb (length rows) (room_for_row v x) (omega arith))

      pub added_answer : r ≡ put_at (row_place m rows x) (length rows) (room_for_row v x)
      added_answer =
          d.answer ∙ sym (ap (λ b. cond b (Ok (length rows)) (Err Full)) whole) ∙ ap (λ o. put_at o (length rows) (room_for_row v x)) new

      pub added_rows : rows_from v.width fs ps ≡ cond (is_ok r) (put (same_row m) rows x) rows
      added_rows =
          kept_rows l v.width fs ps (rows ++ x ∷ []) d.keeps ∙ sym (put_unseen (same_row m) rows x (sym new))
          ∙ ap (λ z. cond (is_ok z) (put (same_row m) rows x) rows) (sym d.answer)

      pub added_keeps : Keeps m v.width fs ps (rows_from v.width fs ps)
      added_keeps = keeps_own l v.width fs ps (rows ++ x ∷ []) d.keeps

      pub added_something : adds_at (row_place m rows x) (length rows) (room_for_row v x) ≡ false → ⊥
      added_something f = true≢false (sym whole ∙ ap (λ o. adds_at o (length rows) (room_for_row v x)) new ∙ f)
