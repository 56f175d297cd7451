use Rattle.std.proofs.Common.{◌≡◌, length, take}
use Rattle.table.specs.Tables.{keys_of, room_of, slots_of}
use Rattle.table_speed.specs.Speeds.{held_after}
use Rattle.table_speed.proofs.put_all.Given as goal

abbrev pub invariant-loop-key : goal.invariant-loop-key
invariant-loop-key l =
    (length (slots_of l.table) ≡ length (slots_of l.initial.table))
    × (keys_of l.table ≡ held_after (room_of l.initial.table) (keys_of l.initial.table) (take l.key-index l.keys))
