-- What the table's own search does: a walk along a chain, and what it finds.
use Rattle.std.specs.Prelude.{◌≡◌, ℕ, ◌<◌, ◌≤◌, false, true, length, get_or, Some, None, Ok, Err, Option, Result, ◌≢◌, slice_index_or}
use Rattle.table.specs.declared.Slot.{Slot}
use Rattle.table.specs.declared.Table.{Table}
use Rattle.table.specs.Keys.{KeyModel, place_of}
use Rattle.table.specs.Chains.{Newest}
use Rattle.table.specs.Tables.{bucket_in, keys_of, room_of, slots_of}

-- On the way down the bucket of k: the link names the newest place of the bucket below the bound, and no place from the
-- bound on holds k.
pub record Walk {K : Type 0} {g : _} (m : KeyModel K) (t : Table K g) (k : K) (bound : ℕ) (link : Option ℕ) : Type 0 where
  pub within : bound ≤ length (keys_of t)
  pub newest : Newest (bucket_in m t) (keys_of t) bound (bucket_in m t k) link
  pub passed : (d : K) (j : ℕ) → bound ≤ j → j < length (keys_of t) → m.same (slice_index_or (keys_of t) j d) k ≢ true

-- From place i, where k is not, the way goes on by the link r.
abbrev pub Steps : {K : Type 0} {g : _} → KeyModel K → Table K g → ℕ → Option ℕ → Type 0
Steps {K} m t i r = (k : K) (bound : ℕ) (link : Option ℕ) (d : Slot K) → link ≡ Some i → Walk m t k bound link
    → false ≡ m.same (get_or (slots_of t) i d).key k → Walk m t k i r

-- Bucket b is where k goes as a new key.
pub record Gap {K : Type 0} {g : _} (m : KeyModel K) (t : Table K g) (k : K) (b : ℕ) : Type 0 where
  pub bucket : b ≡ bucket_in m t k
  pub below : 0 < room_of t → b < length (slots_of t)
  pub new : place_of m (keys_of t) k ≡ None

-- What a search for k answers: the place that k has in the list, or the bucket of k where it is new.
abbrev pub Seeks : {K : Type 0} {g : _} → KeyModel K → Table K g → K → Result ℕ ℕ → Type 0
Seeks m t k (Ok i) = place_of m (keys_of t) k ≡ Some i
Seeks m t k (Err b) = Gap m t k b
