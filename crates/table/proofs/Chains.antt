-- The slots of an empty table, the key in each slot, and a walk down a bucket's chain.
use Rattle.std.proofs.Common.{◌≡◌, ℕ, ◌+◌, ◌<◌, ◌≤◌, true, false, List, [], length, get_or, take, set, Some, None, Option, sym, refl, ap, ◌∙◌, ⊎_elim, arith, below_more}
use Rattle.std.proofs.lemmas.List.{length-take-le, get_or-map, get_or-take, get_or-set_same, get_or-set_other}
use Rattle.std.specs.List.{slice_get}
use Rattle.std.specs.Option.{option_and_then}
use Rattle.std.proofs.lemmas.Option.{slice_get-get_or, slice_get_past}
use Rattle.std.proofs.lemmas.Bool.{both_ways, cases_lt, cases_order}
use Rattle.table.specs.declared.Slot.{Slot}
use Rattle.table.specs.declared.Table.{Table}
use Rattle.table.specs.Keys.{KeyModel, KeyLaws, place_of}
use Rattle.table.specs.Chains.{Stores, Chained, bucket_of}
use Rattle.table.specs.Tables.{Means, bucket_in, keys_of, room_of, slots_of}
use Rattle.table.specs.Search.{Gap, Walk}
use Rattle.table.proofs.Places.{absent_place, held_place}
use Rattle.table.proofs.Buckets.{bucket_below, room_slots}

-- One more head set to none.
pub heads_more : {K : Type 0} (xs : List (Slot K)) (i : ℕ) (v : Slot K) → i < length xs → v.head ≡ None
    → ((d : Slot K) (b : ℕ) → b < i → (get_or xs b d).head ≡ None)
    → (d : Slot K) (b : ℕ) → b < i + 1 → (get_or (set xs i v) b d).head ≡ None
heads_more xs i v l e h d =
    below_more (λ b. (get_or (set xs i v) b d).head ≡ None) i
    (λ b q. ap (λ s. s.head) (get_or-set_other xs i b v d (λ z. omega arith)) ∙ h d b q)
    (ap (λ s. s.head) (get_or-set_same xs i v d l) ∙ e)

-- The slot of a place holds the key of that place.
pub key_stored : {K : Type 0} {m : KeyModel K} {bucket : K → ℕ} (xs : List (Slot K)) (keys : List K) → Stores m bucket xs keys
    → (i : ℕ) (d : Slot K) (e : K) → i < length keys → get_or keys i e ≡ (get_or xs i d).key
key_stored xs keys h i d e l =
    let n : i < length (take (length keys) xs) = omega (arith, length-take-le (length keys) xs h.fits) in
    ap (λ ks. get_or ks i e) (sym h.listed) ∙ get_or-map (λ s. s.key) (take (length keys) xs) i d e n
    ∙ ap (λ s. s.key) (get_or-take (length keys) xs i d l)

module _ {K : Type 0} (m : KeyModel K) where
  pub chained_none : (xs : List (Slot K)) → ((d : Slot K) (b : ℕ) → b < length xs → (get_or xs b d).head ≡ None) → Chained m 0 xs []
  chained_none xs h = record {
    count = refl;
    few = omega arith;
    stored = record {
      listed = refl;
      fits = omega arith;
      apart = λ i j d p q. absurd (omega arith);
      heads = λ d b l. rw (h d b l) (λ k j z. absurd (omega arith));
      nexts = λ d k i l. absurd (omega arith);
    };
  }

  module _ (laws : KeyLaws m) {g : _} (t : Table K g) (h : Means m t (keys_of t)) (k : K) where
    same_bucket : (x : K) → m.same x k ≡ true → bucket_in m t x ≡ bucket_in m t k
    same_bucket x e = ap (λ s. bucket_of s (room_of t)) (laws.alike x k e)

    -- The walk begins at the head of the bucket: nowhere where there is no slot, and then no key.
    pub walk_start : (b : ℕ) (link : Option ℕ) → b ≡ bucket_in m t k
        → link ≡ option_and_then (λ s. s.head) (slice_get (slots_of t) b) → Walk m t k (length (keys_of t)) link
    walk_start b link e q =
        ⊎_elim
        (λ (l : b < length (slots_of t)).
        let d : Slot K = record { key = k; head = None; next = None } in
        let head = q ∙ ap (option_and_then (λ s. s.head)) (slice_get-get_or (slots_of t) b d l) in
        record {
          within = omega arith;
          newest = rw (head, ← e) (h.stored.heads d b l);
          passed = λ x j p o. absurd (omega arith);
        })
        (λ (l : length (slots_of t) ≤ b).
        let none : length (keys_of t) ≡ 0 =
        ⊎_elim
        (λ (z : 0 < room_of t).
        absurd (omega (arith, bucket_below (m.scatter k) (room_of t) z, room_slots (length (slots_of t)))))
        (λ (z : room_of t ≤ 0). omega (arith, h.few))
        (cases_lt 0 (room_of t)) in
        record {
          within = omega arith;
          newest = rw (q, slice_get_past (slots_of t) b l) (λ d j p. absurd (omega arith));
          passed = λ d j p o. absurd (omega arith);
        })
        (cases_lt b (length (slots_of t)))

    pub walk_step : (bound i : ℕ) (d e : Slot K) → Walk m t k bound (Some i)
        → false ≡ m.same (get_or (slots_of t) i d).key k → Walk m t k i (get_or (slots_of t) i e).next
    walk_step bound i d e w f =
        let l : i < length (keys_of t) = omega (arith, w.newest.0, w.within) in
        record {
          within = omega arith;
          newest = rw (← (w.newest.1 k)) (h.stored.nexts e k i l);
          passed = λ x j p q s.
              ⊎_elim
              (λ (z : j ≡ i).
              both_ways (m.same (get_or (slots_of t) i d).key k) (sym f)
              (ap (λ y. m.same y k) (sym (key_stored (slots_of t) (keys_of t) h.stored i d x l)) ∙ rw (← z) s))
              (⊎_elim
              (λ (z : j < i). absurd (omega arith))
              (λ (z : i < j).
              ⊎_elim
              (λ (o : j < bound). w.newest.2 x j z o (same_bucket (get_or (keys_of t) j x) s))
              (λ (o : bound ≤ j). w.passed x j o q s)
              (cases_lt j bound)))
              (cases_order j i);
        }

    pub walk_found : (bound i : ℕ) (d : Slot K) → Walk m t k bound (Some i)
        → true ≡ m.same (get_or (slots_of t) i d).key k → place_of m (keys_of t) k ≡ Some i
    walk_found bound i d w f =
        let l : i < length (keys_of t) = omega (arith, w.newest.0, w.within) in
        held_place m laws (keys_of t) k i h.stored.apart
        (l, λ e. ap (λ y. m.same y k) (key_stored (slots_of t) (keys_of t) h.stored i d e l) ∙ sym f)

    pub walk_end : (bound : ℕ) → Walk m t k bound None → place_of m (keys_of t) k ≡ None
    walk_end bound w =
        absent_place m (keys_of t) k
        (λ j d q s.
        ⊎_elim
        (λ (o : j < bound). w.newest d j o (same_bucket (get_or (keys_of t) j d) s))
        (λ (o : bound ≤ j). w.passed d j o q s)
        (cases_lt j bound))

    -- A search that ends without the key says what a put needs.
    pub gap_found : (b bound : ℕ) → b ≡ bucket_in m t k → Walk m t k bound None → Gap m t k b
    gap_found b bound e w = record {
      bucket = e;
      below = λ l. omega (arith, bucket_below (m.scatter k) (room_of t) l, room_slots (length (slots_of t)));
      new = walk_end bound w;
    }
