-- What the timed run answers.
use Rattle.std.specs.Prelude.{ℕ, ◌+◌, ◌*◌, ◌%◌, ◌^◌, List, [], length, Some, None, fold, Option}
use Rattle.table.specs.Chains.{room_for}
use Rattle.table.specs.Keys.{number_key, place_of, put_keys}

-- The list of a table with so many places after these keys are put, in order.
abbrev pub held_after : ℕ → List ℕ → List ℕ → List ℕ
held_after room held keys = fold (put_keys number_key room) held keys

-- A sum in 64 bits, with a place that was found.
abbrev pub with_place : ℕ → Option ℕ → ℕ
with_place sum None = sum
with_place sum (Some place) = (sum + place) % 2 ^ 64

-- The sum of the places that the keys sought have in a list.
abbrev pub places_sum : List ℕ → List ℕ → ℕ
places_sum held sought = fold (λ sum k. with_place sum (place_of number_key held k)) 0 sought

-- The sum over so many rounds, of a table that has a place for each key put.
abbrev pub speed_sum : List ℕ → List ℕ → ℕ → ℕ
speed_sum keys sought rounds = rounds * places_sum (held_after (room_for (length keys)) [] keys) sought % 2 ^ 64
