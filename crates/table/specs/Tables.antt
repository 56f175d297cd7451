-- What a table means: its list of keys.
use Rattle.std.specs.Prelude.{ℕ, List, length}
use Rattle.table.specs.declared.Slot.{Slot}
use Rattle.table.specs.declared.Table.{Table}
use Rattle.table.specs.Keys.{KeyModel}
use Rattle.table.specs.Chains.{Chained, room_for, bucket_of, stored_keys}

-- The slots of a table's lent memory.
abbrev pub slots_of : {K : Type 0} {g : _} → Table K g → List (Slot K)
slots_of t = t.slots.now

-- The list of keys that a table means, in the order of putting: the keys in the slots that hold one.
abbrev pub keys_of : {K : Type 0} {g : _} → Table K g → List K
keys_of t = stored_keys t.len (slots_of t)

-- How many places a table has.
abbrev pub room_of : {K : Type 0} {g : _} → Table K g → ℕ
room_of t = room_for (length (slots_of t))

-- The bucket of a key in a table.
abbrev pub bucket_in : {K : Type 0} {g : _} → KeyModel K → Table K g → K → ℕ
bucket_in m t k = bucket_of (m.scatter k) (room_of t)

-- The table means this list of keys, in the order of putting.
abbrev pub Means : {K : Type 0} {g : _} → KeyModel K → Table K g → List K → Type 0
Means m t keys = Chained m t.len (slots_of t) keys
