use Rattle.std.proofs.Common.{◌≡◌, ◌*◌, ◌%◌, ◌^◌}
use Rattle.table.specs.Tables.{keys_of}
use Rattle.table_speed.specs.Speeds.{places_sum}
use Rattle.table_speed.proofs.rounds_of.Given as goal

abbrev pub invariant-loop-round : goal.invariant-loop-round
invariant-loop-round l = l.sum ≡ l.round * places_sum (keys_of l.table) l.keys % 2 ^ 64
