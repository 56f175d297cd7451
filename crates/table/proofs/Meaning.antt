-- The list that a table means: there is one at most, its keys are apart, and they fit.
use Rattle.std.proofs.Common.{◌≡◌, ℕ, ◌≤◌, List, length, sym, ap, ◌∙◌, subst}
use native.Mathlib.Nat.{min-eq_left}
use Rattle.table.specs.declared.Slot.{Slot}
use Rattle.table.specs.declared.Table.{Table}
use Rattle.table.specs.Keys.{KeyModel, Apart}
use Rattle.table.specs.Chains.{Chained, room_for, stored_keys}
use Rattle.table.specs.Tables.{Means, keys_of, room_of, slots_of}

-- Slots store the list of the keys in them.
pub chained_stored : {K : Type 0} {m : KeyModel K} (n : ℕ) (xs : List (Slot K)) (keys : List K) → Chained m n xs keys → stored_keys n xs ≡ keys
chained_stored n xs keys p = ap (λ i. stored_keys i xs) p.count ∙ p.stored.listed

pub chained_own : {K : Type 0} {m : KeyModel K} (n : ℕ) (xs : List (Slot K)) (keys : List K) → Chained m n xs keys
    → Chained m n xs (stored_keys n xs)
chained_own {K} {m} n xs keys p = subst (Chained m n xs) (sym (chained_stored n xs keys p)) p

-- The list is that of the keys in the slots.
pub means_stored : {K : Type 0} {g : _} {m : KeyModel K} (t : Table K g) (keys : List K) → Means m t keys → keys_of t ≡ keys
means_stored t keys p = chained_stored t.len (slots_of t) keys p

-- A table means one list at most.
pub means_once : {K : Type 0} {g : _} {m : KeyModel K} (t : Table K g) (ks ls : List K) → Means m t ks → Means m t ls → ks ≡ ls
means_once t ks ls p q = sym (means_stored t ks p) ∙ means_stored t ls q

pub means_apart : {K : Type 0} {g : _} {m : KeyModel K} (t : Table K g) (keys : List K) → Means m t keys → Apart m keys
means_apart t keys p = p.stored.apart

pub means_few : {K : Type 0} {g : _} {m : KeyModel K} (t : Table K g) (keys : List K) → Means m t keys → length keys ≤ room_of t
means_few t keys p = p.few

-- Up to 2 ^ 32 slots, each is a place.
pub room_all : (n : ℕ) → n ≤ 4294967296 → room_for n ≡ n
room_all n h = min-eq_left h
