-- What one more node does to rows, keys and labels, by what is held.
use Rattle.std.proofs.Common.{◌≡◌, ℕ, suc, ◌<◌, ◌≤◌, Bool, true, false, cond, not, ◌&&◌, leb, List, [], ◌∷◌, ◌++◌, length, Some, None, Decides, Option, sym, refl, ap, ◌∙◌, subst, true≢false, arith}
use Rattle.std.specs.List.{slice_get}
use Rattle.std.proofs.lemmas.List.{length-map}
use Rattle.std.proofs.lemmas.Bool.{lt-ltb, le-ltb, le-leb, lt-leb}
use Rattle.cost.specs.Model.{Model, Laws}
use Rattle.grammar.specs.Lists.{Lists, Sealed}
use Rattle.covers.specs.Trees.{Tree, size}
use Rattle.covers.specs.Rows.{row}
use Rattle.covers.specs.Held.{Key, same_key, same_row, place, put, In, Accepted, rows_held, label, key, keys_held}
use Rattle.covers.proofs.Relaxing.{some_is, none_some}
use Rattle.covers.proofs.Nths.{nth_map}
use Rattle.covers.proofs.Labels.{same_row_tells, same_key_tells}
use Rattle.entries.specs.Walks.{seen}
use Rattle.entries.proofs.Seen.{put_seen, put_unseen}
use Rattle.label.specs.declared.refusals.NoRoom.{NoRoom}
use Rattle.label.specs.declared.refusals.NoRoom.TheVariants.{Keys, Rows}
use Rattle.states.specs.Leading.{Leads, led}
use Rattle.states.specs.Room.{is_held, key_held, row_held, lack, Next}
use Rattle.states.proofs.Growth.{place_below, place_absent, rows_next, label_next, leads_to, row_is_held, rows_same, leads_same, leads_more}
use Rattle.states.proofs.Finding.{led_at, led_nowhere}

module _ {A : Type 0} (same : A → A → Bool) (tells : (a b : A) → Decides (same a b) (a ≡ b)) where
  held_in : (xs : List A) (x : A) → In x xs → is_held same xs x ≡ true
  held_in xs x h = lt-ltb (place same xs x) (length xs) (place_below same tells xs x h)

  held_absent : (xs : List A) (x : A) → ((i : ℕ) → slice_get xs i ≡ Some x → ⊥) → is_held same xs x ≡ false
  held_absent xs x h = le-ltb (place same xs x) (length xs) (let e = place_absent same tells xs x h in omega arith)

  unheld_absent : (xs : List A) (x : A) → is_held same xs x ≡ false → (i : ℕ) → slice_get xs i ≡ Some x → ⊥
  unheld_absent xs x e i h = true≢false (sym (held_in xs x (i, h)) ∙ e)

  end_by : (y : A) (ys : List A) (x : A) (b : Bool) → same y x ≡ b → (slice_get (y ∷ ys) 0 ≡ Some x → ⊥) → place same (ys ++ x ∷ []) x ≡ length ys → ◌≡◌ {A = ℕ} (cond b 0 (suc (place same (ys ++ x ∷ []) x))) (suc (length ys))
  end_by y ys x true s h rest = absurd (h (ap {B = Option A} Some ((tells y x).0 s)))
  end_by y ys x false s h rest = ap suc rest

  -- what is put at the end of a list without it has the list's length as its place
  place_end : (xs : List A) (x : A) → ((i : ℕ) → slice_get xs i ≡ Some x → ⊥) → place same (xs ++ x ∷ []) x ≡ length xs
  place_end [] x h = ap (λ b. cond b 0 1) ((tells x x).1 refl)
  place_end (y ∷ ys) x h = end_by y ys x (same y x) refl (h 0) (place_end ys x (λ i e. h (suc i) e))

-- what was seen is held, at its place
seen_by : (b : Bool) (p i : ℕ) → cond b (Some p) None ≡ Some i → (b ≡ true) × (p ≡ i)
seen_by true p i e = (refl, some_is p i e)
seen_by false p i e = absurd (none_some i e)

unseen_by : (b : Bool) (p : ℕ) → cond b (Some p) None ≡ None → b ≡ false
unseen_by true p e = absurd (none_some p (sym e))
unseen_by false p e = refl

room_by : (a b : Bool) (c d : Bool) → not a && c ≡ false → not b && d ≡ false → ◌≡◌ {A = Option NoRoom} (cond (not a && c) (Some Keys) (cond (not b && d) (Some Rows) None)) None
room_by a b c d e f = ap (λ z. cond z (Some Keys) (cond (not b && d) (Some Rows) None)) e ∙ ap (λ z. cond z (Some Rows) None) f

free_held : (a c : Bool) → a ≡ true → not a && c ≡ false
free_held a c e = ap (λ z. not z && c) e

both : (a c : Bool) (z : Bool) → a ≡ false → c ≡ z → not a && c ≡ z
both a c z e f = ap (λ w. not w && c) e ∙ f

module _ {C : Type 0} {m : Model C} (l : Laws m) {G : Lists C} (sealed : Sealed m G) (T S : ℕ) (ts : List Tree) (t : Tree) (next : Next ts t) (accepts : Accepted ts) (smalls : (u : Tree) → In u ts → size u ≤ 2048) (ks : List (Key × ℕ)) (leads : Leads m G ts ks) where
  more : List Tree
  more = ts ++ t ∷ []

  -- a key that is held leads to the label, and nothing is added
  pub record Known (i : ℕ) : Type 0 where
    pub room : lack m G T S ts t ≡ None
    pub labelled : label m G (ts ++ t ∷ []) t ≡ i
    pub rows : rows_held m G (ts ++ t ∷ []) ≡ rows_held m G ts
    pub leads_now : Leads m G (ts ++ t ∷ []) ks

  pub step_known : (i : ℕ) → led ks (key m G ts t) ≡ Some i → Known i
  step_known i e =
      let h = led_at ks (key m G ts t) i e in
      let k : Key × ℕ = (key m G ts t, i) in
      let held = row_is_held l sealed ts t next.small next.before accepts smalls ks leads h.0 k h.1 refl in
      let listed : In (key m G ts t) (keys_held m G ts) = (h.0, ap (λ z. slice_get z h.0) (sym leads.keyed) ∙ nth_map (λ (z : Key × ℕ). z.0) ks h.0 k h.1) in
      record {
        room = room_by (key_held m G ts t) (row_held m G ts t) (leb T (length (keys_held m G ts))) (leb S (length (rows_held m G ts))) (free_held (key_held m G ts t) (leb T (length (keys_held m G ts))) (held_in same_key same_key_tells (keys_held m G ts) (key m G ts t) listed)) (free_held (row_held m G ts t) (leb S (length (rows_held m G ts))) (held_in (same_row m) (same_row_tells l) (rows_held m G ts) (row m G t) held));
        labelled = leads_to l sealed ts t next.small next.before accepts smalls ks leads h.0 k h.1 refl;
        rows = rows_same l sealed ts t next.small next.before accepts smalls ks leads held;
        leads_now = leads_same l sealed ts t next.small next.before accepts smalls ks leads h.0 k h.1 refl;
      }

  -- a key that is not held leads nowhere
  module _ (nowhere : led ks (key m G ts t) ≡ None) where
    new_key : (i : ℕ) → slice_get (keys_held m G ts) i ≡ Some (key m G ts t) → ⊥
    new_key = subst (λ z. (i : ℕ) → slice_get z i ≡ Some (key m G ts t) → ⊥) leads.keyed (led_nowhere ks (key m G ts t) nowhere)

    unheld : key_held m G ts t ≡ false
    unheld = held_absent same_key same_key_tells (keys_held m G ts) (key m G ts t) new_key

    long : length (keys_held m G ts) ≡ length ks
    long = ap length (sym leads.keyed) ∙ length-map ks (λ (z : Key × ℕ). z.0)

    -- it is refused where as many keys are held as there is place for
    pub step_keys : T ≤ length ks → lack m G T S ts t ≡ Some Keys
    step_keys h =
        let e = both (key_held m G ts t) (leb T (length (keys_held m G ts))) true unheld (le-leb T (length (keys_held m G ts)) (let k = long in omega arith)) in
        ap (λ z. cond z (Some Keys) (cond (not (row_held m G ts t) && leb S (length (rows_held m G ts))) (Some Rows) None)) e

    module _ (place-left : length ks < T) where
      keys_free : not (key_held m G ts t) && leb T (length (keys_held m G ts)) ≡ false
      keys_free = both (key_held m G ts t) (leb T (length (keys_held m G ts))) false unheld (lt-leb T (length (keys_held m G ts)) (let k = long in omega arith))

      -- the key is added with the label i, and the rows are those that a put of the node's row leaves
      pub record Added (i : ℕ) : Type 0 where
        pub room : lack m G T S ts t ≡ None
        pub labelled : label m G (ts ++ t ∷ []) t ≡ i
        pub rows : rows_held m G (ts ++ t ∷ []) ≡ put (same_row m) (rows_held m G ts) (row m G t)
        pub leads_now : Leads m G (ts ++ t ∷ []) (ks ++ (key m G ts t, i) ∷ [])

      added : (i : ℕ) → lack m G T S ts t ≡ None → label m G (ts ++ t ∷ []) t ≡ i → Added i
      added i room e = record {
        room = room;
        labelled = e;
        rows = rows_next l sealed ts t;
        leads_now = subst (λ z. Leads m G (ts ++ t ∷ []) (ks ++ (key m G ts t, z) ∷ [])) e (leads_more l sealed ts t next.small next.before accepts smalls ks leads new_key);
      }

      -- its row is held
      pub step_row_known : (i : ℕ) → seen (same_row m) (rows_held m G ts) (row m G t) ≡ Some i → Added i
      step_row_known i e =
          let s = seen_by (row_held m G ts t) (place (same_row m) (rows_held m G ts) (row m G t)) i e in
          added i
          (room_by (key_held m G ts t) (row_held m G ts t) (leb T (length (keys_held m G ts))) (leb S (length (rows_held m G ts))) keys_free (free_held (row_held m G ts t) (leb S (length (rows_held m G ts))) s.0))
          (label_next l sealed ts t ∙ ap (λ z. place (same_row m) z (row m G t)) (put_seen (same_row m) (rows_held m G ts) (row m G t) i e) ∙ s.1)

      -- or not
      module _ (unseen : seen (same_row m) (rows_held m G ts) (row m G t) ≡ None) where
        new_row : row_held m G ts t ≡ false
        new_row = unseen_by (row_held m G ts t) (place (same_row m) (rows_held m G ts) (row m G t)) unseen

        pub step_rows : S ≤ length (rows_held m G ts) → lack m G T S ts t ≡ Some Rows
        step_rows h =
            let e = both (row_held m G ts t) (leb S (length (rows_held m G ts))) true new_row (le-leb S (length (rows_held m G ts)) h) in
            ap (λ z. cond z (Some Keys) (cond (not (row_held m G ts t) && leb S (length (rows_held m G ts))) (Some Rows) None)) keys_free ∙ ap (λ z. cond z (Some Rows) None) e

        pub step_new : length (rows_held m G ts) < S → Added (length (rows_held m G ts))
        step_new h =
            let free = both (row_held m G ts t) (leb S (length (rows_held m G ts))) false new_row (lt-leb S (length (rows_held m G ts)) h) in
            added (length (rows_held m G ts))
            (room_by (key_held m G ts t) (row_held m G ts t) (leb T (length (keys_held m G ts))) (leb S (length (rows_held m G ts))) keys_free free)
            (label_next l sealed ts t ∙ ap (λ z. place (same_row m) z (row m G t)) (put_unseen (same_row m) (rows_held m G ts) (row m G t) unseen) ∙ place_last)
          where
            place_last : place (same_row m) (rows_held m G ts ++ row m G t ∷ []) (row m G t) ≡ length (rows_held m G ts)
            place_last = place_end (same_row m) (same_row_tells l) (rows_held m G ts) (row m G t) (unheld_absent (same_row m) (same_row_tells l) (rows_held m G ts) (row m G t) new_row)
