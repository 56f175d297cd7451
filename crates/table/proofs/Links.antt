-- A new key linked in at the head of its bucket.
use Rattle.std.proofs.Common.{◌≡◌, ℕ, ◌+◌, ◌<◌, ◌≤◌, List, [], ◌∷◌, ◌++◌, map, length, get_or, take, set, Some, None, Option, sym, refl, ap, ◌∙◌, subst, ⊎_elim, arith}
use Rattle.std.proofs.lemmas.List.{length-set, length_push, length-map, length-take-le, get_or_default, get_or-set_same, get_or-set_other, get_or_append_left, get_or_push, get_or-map, get_or-take, map_more, same_lists}
use Rattle.std.proofs.lemmas.Bool.{cases_lt, cases_eq}
use Rattle.table.specs.declared.Slot.{Slot}
use Rattle.table.specs.declared.Table.{Table}
use Rattle.table.specs.Keys.{KeyModel, Absent, place_of}
use Rattle.table.specs.Chains.{Newest, Stores, Chained, bucket_of, room_for}
use Rattle.table.specs.Links.{Linked}
use Rattle.table.specs.Tables.{Means, keys_of, room_of, slots_of}
use Rattle.table.specs.Search.{Gap}
use Rattle.table.proofs.Places.{apart_push, place_absent}
use Rattle.table.proofs.Buckets.{bucket_below, room_slots}
use Rattle.table.proofs.Chains.{key_stored}

-- A write at i of a slot whose f is as before leaves f of every slot.
field_kept : {K Y : Type 0} (f : Slot K → Y) (xs : List (Slot K)) (i : ℕ) (v e : Slot K) → i < length xs → f v ≡ f (get_or xs i e)
    → (d : Slot K) (j : ℕ) → f (get_or (set xs i v) j d) ≡ f (get_or xs j d)
field_kept f xs i v e l q d j =
    ⊎_elim
    (λ (p : j ≡ i). rw p (ap f (get_or-set_same xs i v d l) ∙ q ∙ ap f (get_or_default xs i e d l)))
    (λ (p : j ≡ i → ⊥). ap f (get_or-set_other xs i j v d p))
    (cases_eq j i)

pub links_in : {K : Type 0} (xs : List (Slot K)) (n b : ℕ) (k : K) (r s t : Slot K) → n < length xs → b < length xs
    → let v : Slot K = record { key = k; head = (get_or xs n r).head; next = (get_or xs b s).head } in
    Linked xs n b k
    (set (set xs n v) b (record { key = (get_or (set xs n v) b t).key; head = Some n; next = (get_or (set xs n v) b t).next }))
links_in {K} xs n b k r s t ln lb =
    let v : Slot K = record { key = k; head = (get_or xs n r).head; next = (get_or xs b s).head } in
    let u : Slot K = record { key = (get_or (set xs n v) b t).key; head = Some n; next = (get_or (set xs n v) b t).next } in
    let lm : b < length (set xs n v) = omega (arith, length-set xs n v) in
    record {
      size = length-set (set xs n v) b u ∙ length-set xs n v;
      old_keys = λ d j ne. field_kept (λ s. s.key) (set xs n v) b u t lm refl d j ∙ ap (λ s. s.key) (get_or-set_other xs n j v d ne);
      new_key = λ d. field_kept (λ s. s.key) (set xs n v) b u t lm refl d n ∙ ap (λ s. s.key) (get_or-set_same xs n v d ln);
      old_nexts = λ d j ne. field_kept (λ s. s.next) (set xs n v) b u t lm refl d j ∙ ap (λ s. s.next) (get_or-set_other xs n j v d ne);
      new_next = λ d. field_kept (λ s. s.next) (set xs n v) b u t lm refl d n ∙ ap (λ s. s.next) (get_or-set_same xs n v d ln)
          ∙ ap (λ s. s.head) (get_or_default xs b s d lb);
      old_heads = λ d j ne. ap (λ s. s.head) (get_or-set_other (set xs n v) b j u d ne)
          ∙ field_kept (λ s. s.head) xs n v r ln refl d j;
      new_head = λ d. ap (λ s. s.head) (get_or-set_same (set xs n v) b u d lm);
    }

module _ {K : Type 0} (bucket : K → ℕ) (keys : List K) (k : K) where
  old_at : (d : K) (j : ℕ) → j < length keys → get_or (keys ++ k ∷ []) j d ≡ get_or keys j d
  old_at d j l = get_or_append_left keys (k ∷ []) d j l

  old_bucket : (d : K) (j : ℕ) → j < length keys → bucket (get_or (keys ++ k ∷ []) j d) ≡ bucket (get_or keys j d)
  old_bucket d j l = ap bucket (old_at d j l)

  new_bucket : (d : K) → bucket (get_or (keys ++ k ∷ []) (length keys) d) ≡ bucket k
  new_bucket d = ap bucket (get_or_push keys k d (length keys) refl)

  -- A key at the end changes nothing below it.
  newest_kept : (n b : ℕ) (c : Option ℕ) → n ≤ length keys → Newest bucket keys n b c → Newest bucket (keys ++ k ∷ []) n b c
  newest_kept n b None l h = λ d j q e. h d j q (sym (old_bucket d j (omega arith)) ∙ e)
  newest_kept n b (Some i) l h = (
    h.0,
    λ d. old_bucket d i (omega (arith, h.0)) ∙ h.1 d,
    λ d j p q e. h.2 d j p q (sym (old_bucket d j (omega arith)) ∙ e),
  )

  -- A key at the end changes nothing for another bucket.
  at_other : (b : ℕ) (P : ℕ → Type 0) (d : K) → (b ≡ bucket k → ⊥) → ((j : ℕ) → P j → j < length keys → bucket (get_or keys j d) ≡ b → ⊥)
      → (j : ℕ) → P j → j < length keys + 1 → bucket (get_or (keys ++ k ∷ []) j d) ≡ b → ⊥
  at_other b P d ne h j p q e =
      ⊎_elim
      (λ (o : j < length keys). h j p o (sym (old_bucket d j o) ∙ e))
      (λ (o : length keys ≤ j).
      let z : length keys ≡ j = omega arith in
      ne (sym e ∙ ap bucket (get_or_push keys k d j z)))
      (cases_lt j (length keys))

  newest_past : (b : ℕ) (c : Option ℕ) → (b ≡ bucket k → ⊥) → Newest bucket keys (length keys) b c
      → Newest bucket (keys ++ k ∷ []) (length keys + 1) b c
  newest_past b None ne h = λ d j q e. at_other b (λ j. Unit {0}) d ne (λ j u o. h d j o) j tt q e
  newest_past b (Some i) ne h = (
    omega (arith, h.0),
    λ d. old_bucket d i h.0 ∙ h.1 d,
    λ d j p q e. at_other b (λ j. i < j) d ne (λ j u o. h.2 d j u o) j p q e,
  )

  newest_new : Newest bucket (keys ++ k ∷ []) (length keys + 1) (bucket k) (Some (length keys))
  newest_new = (omega arith, new_bucket, λ d j p q. absurd (omega arith))

module _ {K : Type 0} {m : KeyModel K} {bucket : K → ℕ} (xs ys : List (Slot K)) (keys : List K) (k : K)
    (h : Stores m bucket xs keys) (l : length keys < length xs) (in-slots : bucket k < length xs)
    (new : Linked xs (length keys) (bucket k) k ys) where
  old_listed : map (λ s. s.key) (take (length keys) ys) ≡ keys
  old_listed =
      let size : length keys ≤ length ys = omega (arith, new.size) in
      let n : length (map (λ s. s.key) (take (length keys) ys)) ≡ length keys =
      length-map (take (length keys) ys) (λ s. s.key) ∙ length-take-le (length keys) ys size in
      same_lists (map (λ s. s.key) (take (length keys) ys)) keys n
      (λ j e p.
      let d : Slot K = record { key = e; head = None; next = None } in
      let q : j < length keys = omega (arith, n) in
      let o : j < length (take (length keys) ys) = omega (arith, length-take-le (length keys) ys size) in
      get_or-map (λ s. s.key) (take (length keys) ys) j d e o ∙ ap (λ s. s.key) (get_or-take (length keys) ys j d q)
      ∙ new.old_keys d j (λ z. omega arith) ∙ sym (key_stored xs keys h j d e q))

  pub stores_put : Absent m keys k → Stores m bucket ys (keys ++ k ∷ [])
  stores_put a = record {
    listed =
        let d : Slot K = record { key = k; head = None; next = None } in
        rw (length_push keys k)
        (map_more (λ s. s.key) ys (length keys) d (omega (arith, new.size))
        ∙ ap (λ z. z ++ (get_or ys (length keys) d).key ∷ []) old_listed ∙ ap (λ z. keys ++ z ∷ []) (new.new_key d));
    fits = omega (arith, length_push keys k, new.size);
    apart = apart_push m keys k h.apart a;
    heads = λ d b p.
        rw (length_push keys k)
        (⊎_elim
        (λ (q : b ≡ bucket k). rw (q, new.new_head d) (newest_new bucket keys k))
        (λ (q : b ≡ bucket k → ⊥).
        rw (new.old_heads d b q) (newest_past bucket keys k b (get_or xs b d).head q (h.heads d b (omega (arith, new.size)))))
        (cases_eq b (bucket k)));
    nexts = λ d e i p.
        ⊎_elim
        (λ (q : i < length keys).
        rw (new.old_nexts d i (λ z. omega arith), old_bucket bucket keys k e i q)
        (newest_kept bucket keys k i (bucket (get_or keys i e)) (get_or xs i d).next (omega arith) (h.nexts d e i q)))
        (λ (q : length keys ≤ i).
        let z : i ≡ length keys = omega (arith, length_push keys k) in
        rw (z, new.new_next d, new_bucket bucket keys k e)
        (newest_kept bucket keys k (length keys) (bucket k) (get_or xs (bucket k) d).head (omega arith) (h.heads d (bucket k) in-slots)))
        (cases_lt i (length keys));
  }

-- The slots store one key more.
pub chained_put : {K : Type 0} (m : KeyModel K) (xs ys : List (Slot K)) (keys : List K) (k : K) (n i b : ℕ) → Chained m n xs keys
    → i ≡ n → i < room_for (length xs) → b ≡ bucket_of (m.scatter k) (room_for (length xs)) → place_of m keys k ≡ None
    → Linked xs i b k ys → Chained m (i + 1) ys (keys ++ k ∷ [])
chained_put {K} m xs ys keys k n i b h e l q none new =
    let bucket : ℕ = bucket_of (m.scatter k) (room_for (length xs)) in
    let room : room_for (length xs) ≡ room_for (length ys) = ap room_for (sym new.size) in
    let slots = room_slots (length xs) in
    let below : bucket < length xs = omega (arith, bucket_below (m.scatter k) (room_for (length xs)) (omega arith)) in
    let at : Linked xs (length keys) bucket k ys =
    subst (λ z. Linked xs (length keys) z k ys) q (subst (λ z. Linked xs z b k ys) (e ∙ h.count) new) in
    record {
      count = ap (λ z. z + 1) (e ∙ h.count) ∙ sym (length_push keys k);
      few = omega (arith, length_push keys k, h.count);
      stored = subst (λ r. Stores m (λ x. bucket_of (m.scatter x) r) ys (keys ++ k ∷ [])) room
          (stores_put xs ys keys k h.stored (omega (arith, h.count)) below at (place_absent m keys k none));
    }

-- What a table's slots store, once a key that is new is linked in.
pub table_put : {K : Type 0} {g : _} (m : KeyModel K) (t : Table K g) (h : Means m t (keys_of t)) (ys : List (Slot K)) (k : K) (i b : ℕ)
    → i ≡ t.len → i < room_of t → Gap m t k b → Linked (slots_of t) i b k ys → Chained m (i + 1) ys (keys_of t ++ k ∷ [])
table_put m t h ys k i b e l gap new = chained_put m (slots_of t) ys (keys_of t) k t.len i b h e l gap.bucket gap.new new
