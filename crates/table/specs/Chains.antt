-- How a table stores its list of keys: the key of each place in a slot, and a chain of places for each bucket.
use Rattle.std.specs.Prelude.{◌≡◌, ℕ, ◌*◌, ◌/◌, ◌%◌, ◌^◌, ◌<◌, ◌≤◌, min, List, map, length, get_or, take, Some, None, Option, ◌≢◌, bit_xor, slice_index_or}
use Rattle.std.specs.Coded.{Coded, Coded-set, coded_ℕ, coded_list, Π_prop, →_prop, le_prop}
use mathlib.Core.HLevel.{¬_prop, ×₃_prop}
use Rattle.table.specs.declared.Slot.{Slot}
use Rattle.table.specs.Keys.{KeyModel, Apart}

-- The keys in the first n slots, in order.
abbrev pub stored_keys : {K : Type 0} → ℕ → List (Slot K) → List K
stored_keys n xs = map (λ s. s.key) (take n xs)

-- A slot that no chain names.
abbrev pub unused : {K : Type 0} → K → Slot K
unused k = record { key = k; head = None; next = None }

-- How many places n slots give: all of them, up to the 2 ^ 32 that a link can name.
abbrev pub room_for : ℕ → ℕ
room_for n = min n 4294967296

-- The bucket of a scatter number: mixed to 32 bits and scaled down to the number of places.
unfoldable pub bucket_of : ℕ → ℕ → ℕ
bucket_of scatter room = (bit_xor scatter (scatter / 2 ^ 15) * 2654435769 % 2 ^ 32) * room / 2 ^ 32

-- Of the places below m whose key is in bucket b, the link names the last one, or none.
abbrev pub Newest : {K : Type 0} → (K → ℕ) → List K → ℕ → ℕ → Option ℕ → Type 0
Newest {K} bucket keys m b None = (d : K) (j : ℕ) → j < m → bucket (slice_index_or keys j d) ≢ b
Newest {K} bucket keys m b (Some i) =
    (i < m)
    × ((d : K) → bucket (slice_index_or keys i d) ≡ b)
    × ((d : K) (j : ℕ) → i < j → j < m → bucket (slice_index_or keys j d) ≢ b)

-- The slots xs store the list of keys, the key of each place in its slot. The head of bucket b names the last key of the
-- bucket, and the slot of each key links to the one before it in its bucket.
pub record Stores {K : Type 0} (m : KeyModel K) (bucket : K → ℕ) (xs : List (Slot K)) (keys : List K) : Type 0 where
  pub listed : map (λ s. s.key) (take (length keys) xs) ≡ keys
  pub fits : length keys ≤ length xs
  pub apart : Apart m keys
  pub heads : (d : Slot K) (b : ℕ) → b < length xs → Newest bucket keys (length keys) b (get_or xs b d).head
  pub nexts : (d : Slot K) (e : K) (i : ℕ) → i < length keys → Newest bucket keys i (bucket (slice_index_or keys i e)) (get_or xs i d).next

-- Slots of which the first n hold keys, in order, store this list of keys.
pub record Chained {K : Type 0} (m : KeyModel K) (n : ℕ) (xs : List (Slot K)) (keys : List K) : Type 0 where
  pub count : n ≡ length keys
  pub few : length keys ≤ room_for (length xs)
  pub stored : Stores m (λ k. bucket_of (m.scatter k) (room_for (length xs))) xs keys

-- ---- Each of these facts has one proof at most, where keys can be told apart by a code.

Newest-prop : {K : Type 0} (bucket : K → ℕ) (keys : List K) (m b : ℕ) (o : Option ℕ) → IsProp (Newest bucket keys m b o)
Newest-prop bucket keys m b None = Π_prop (λ d. Π_prop (λ j. →_prop ¬_prop))
Newest-prop bucket keys m b (Some i) =
    ×₃_prop le_prop (Π_prop (λ d. Coded-set coded_ℕ _ _)) (Π_prop (λ d. Π_prop (λ j. →_prop (→_prop ¬_prop))))

Stores-prop : {K : Type 0} (code : Coded K) (m : KeyModel K) (bucket : K → ℕ) (xs : List (Slot K)) (keys : List K)
    → IsProp (Stores m bucket xs keys)
Stores-prop code m bucket xs keys p q = λ i. record {
  listed = Coded-set (coded_list code) _ _ p.listed q.listed i;
  fits = le_prop p.fits q.fits i;
  apart = Π_prop (λ x. Π_prop (λ y. Π_prop (λ d. →_prop (→_prop ¬_prop)))) p.apart q.apart i;
  heads = Π_prop (λ d. Π_prop (λ b. →_prop (Newest-prop bucket keys (length keys) b (get_or xs b d).head))) p.heads q.heads i;
  nexts = Π_prop (λ d. Π_prop (λ e. Π_prop (λ j. →_prop (Newest-prop bucket keys j (bucket (slice_index_or keys j e)) (get_or xs j d).next)))) p.nexts q.nexts i;
}

pub Chained-prop : {K : Type 0} (code : Coded K) (m : KeyModel K) (n : ℕ) (xs : List (Slot K)) (keys : List K)
    → IsProp (Chained m n xs keys)
Chained-prop code m n xs keys p q = λ i. record {
  count = Coded-set coded_ℕ _ _ p.count q.count i;
  few = le_prop p.few q.few i;
  stored = Stores-prop code m (λ k. bucket_of (m.scatter k) (room_for (length xs))) xs keys p.stored q.stored i;
}
