-- What an owner of two tables means: a list for each table.
use Rattle.std.specs.Prelude.{ℕ, List, Result}
use Rattle.cost.specs.Model.{Model}
use Rattle.table.specs.declared.Refusal.{Refusal}
use Rattle.table.specs.Keys.{put_answer}
use Rattle.table.specs.Tables.{keys_of, room_of}
use Rattle.table_tests.specs.declared.NodeKey.{NodeKey}
use Rattle.table_tests.specs.declared.Entry.{Entry}
use Rattle.table_tests.specs.declared.Owner.{Owner}
use Rattle.table_tests.specs.Keys.{entry_key}

-- The lists of the owner's tables.
abbrev pub nodes_of : {C : Type 0} {g : _} → Owner C g → List NodeKey
nodes_of o = keys_of o.nodes

abbrev pub entries_of : {C : Type 0} {g : _} → Owner C g → List (Entry C)
entries_of o = keys_of o.entries

-- The answer of the table of entries when an entry is put.
abbrev pub entry_answer : {C : Type 0} {g : _} → Model C → Owner C g → Entry C → Result ℕ Refusal
entry_answer m o entry = put_answer (entry_key m) (room_of o.entries) (entries_of o) entry
