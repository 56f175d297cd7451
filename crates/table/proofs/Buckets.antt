-- A bucket's number is below the number of places, and a table's places are among its slots.
use Rattle.std.proofs.Common.{ℕ, ◌*◌, ◌/◌, ◌%◌, ◌^◌, ◌<◌, ◌≤◌, mod-lt, mul_comm, mul-lt-mul_of_pos_right, arith}
use native.Mathlib.Nat.{min-le_left, min-le_right}
use lib.Bits.{bit_xor}
use Rattle.std.proofs.lemmas.Nat.{div_below}
use Rattle.table.specs.Chains.{bucket_of, room_for}

pub bucket_below : (scatter room : ℕ) → 0 < room → bucket_of scatter room < room
unfolding bucket_of
bucket_below scatter room h =
    let mixed : ℕ = bit_xor scatter (scatter / 2 ^ 15) * 2654435769 % 2 ^ 32 in
    let small : mixed < 2 ^ 32 = mod-lt (bit_xor scatter (scatter / 2 ^ 15) * 2654435769) (omega arith) in
    div_below (mixed * room) (2 ^ 32) room (omega arith)
    (rw (mul_comm room (2 ^ 32)) (mul-lt-mul_of_pos_right small h))

pub room_slots : (n : ℕ) → room_for n ≤ n
room_slots n = min-le_left n 4294967296

pub room_most : (n : ℕ) → room_for n ≤ 2 ^ 32
room_most n = min-le_right n 4294967296
