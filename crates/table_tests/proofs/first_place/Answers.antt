use Rattle.std.proofs.Common.{◌≡◌, ℕ, ◌<◌, ◌≤◌, [], length, Ok, sym, refl, ap, arith}
use Rattle.std.proofs.lemmas.Bool.{eqb-false}
use native.Mathlib.Nat.{le-min}
use Rattle.table.specs.Keys.{number_key, place_of, put_answer}
use Rattle.table.specs.Chains.{room_for}
use Rattle.table.specs.Tables.{room_of}
use Rattle.table.proofs.Places.{put_new}
use Rattle.table_tests.proofs.first_place.Goals as goal

-- A put into an empty table with a slot is accepted at place 0.
accepted : (n : ℕ) (k : ℕ) → 0 < n → put_answer number_key (room_for n) [] k ≡ Ok 0
unfolding place_of
accepted n k l =
    let one : 1 ≤ n = omega arith in
    let most : 1 ≤ 4294967296 = omega arith in
    let room : 0 < room_for n = omega (arith, le-min one most) in
    (put_new number_key (room_for n) [] k refl room).0

pub returns : goal.returns
returns c =
    let t = c.new-table.result in
    let l : 0 < length t.slots.now = omega (arith, eqb-false (length c.args.slots.now) 0 (sym c.if-is_empty.ensures), c.new-table.ensures.memory.length) in
    let a = accepted (length t.slots.now) c.args.key l in
    let empty = ap (λ ks. put_answer number_key (room_of t) ks c.args.key) c.new-table.ensures.keys in
    cc (c.in-Ok.ensures.answer, empty, a)
