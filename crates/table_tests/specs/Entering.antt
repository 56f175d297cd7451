-- What entering a key and its entry does to the list of node keys.
use Rattle.std.specs.Prelude.{◌≡◌, ℕ, List, Ok, Err, Result, slice_set}
use Rattle.table.specs.declared.Refusal.{Refusal}
use Rattle.table.specs.Keys.{put_answer, put_keys}
use Rattle.table_tests.specs.declared.NodeKey.{NodeKey}
use Rattle.table_tests.specs.Keys.{node_key}

-- The node's key is put once the entry has a place.
abbrev pub entered_nodes : Result ℕ Refusal → ℕ → List NodeKey → NodeKey → List NodeKey
entered_nodes (Ok label) room nodes key = put_keys node_key room nodes key
entered_nodes (Err e) room nodes key = nodes

abbrev pub enter_answer : Result ℕ Refusal → ℕ → List NodeKey → NodeKey → Result ℕ Refusal
enter_answer (Ok label) room nodes key = put_answer node_key room nodes key
enter_answer (Err e) room nodes key = Err e

-- The label goes to the place of the key.
abbrev pub entered_labels : Result ℕ Refusal → Result ℕ Refusal → List ℕ → List ℕ
entered_labels (Ok label) (Ok place) labels = slice_set labels place label
entered_labels (Ok label) (Err e) labels = labels
entered_labels (Err e) r labels = labels

-- After a key was entered with its entry, it is in the list or was refused: the list is a put's, or, without a place for the
-- entry, as it was.
abbrev pub Entered : ℕ → List NodeKey → NodeKey → Result ℕ Refusal → List NodeKey → Type 0
Entered room ns key (Ok place) ls = (put_answer node_key room ns key ≡ Ok place) × (ls ≡ put_keys node_key room ns key)
Entered room ns key (Err e) ls = ls ≡ ns
