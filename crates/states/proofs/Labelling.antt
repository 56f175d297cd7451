-- What asking for the label of a node does to the states, by what is held.
use Rattle.std.proofs.Common.{◌≡◌, ℕ, suc, ◌<◌, ◌≤◌, Bool, true, false, cond, ◌⊎◌, List, [], ◌∷◌, ◌++◌, map, length, Some, None, Ok, Err, Option, Result, sym, refl, ap, ◌∙◌, subst, inl, inr, ⊎_elim, arith}
use Rattle.std.specs.Option.{option_map}
use Rattle.std.proofs.lemmas.List.{length-map, map_push}
use Rattle.std.proofs.lemmas.Bool.{cases_lt}
use Rattle.cost.specs.Model.{Model, Laws}
use Rattle.grammar.specs.Lists.{Lists}
use Rattle.covers.specs.Trees.{Tree, count, size}
use Rattle.covers.specs.Rows.{Row, row}
use Rattle.covers.specs.Held.{same_key, same_row, put, In, Accepted, kid_trees, rows_held, label, key}
use Rattle.covers.proofs.Relaxing.{none_some}
use Rattle.covers.proofs.Nths.{nth_below, nth_front, nth_more}
use Rattle.label.specs.declared.refusals.NoRoom.{NoRoom}
use Rattle.label.specs.declared.refusals.NoRoom.TheVariants.{Keys as NoKeys, Rows as NoRows}
use Rattle.table.specs.declared.Table.{Table}
use Rattle.table.specs.Keys.{place_of, put_keys}
use Rattle.table.specs.Tables.{keys_of, room_of}
use Rattle.table.proofs.Places.{put_new}
use Rattle.entries.specs.Walks.{row_place}
use Rattle.entries.proofs.Seen.{put_seen}
use Rattle.rows.specs.declared.held.Rows.{Rows}
use Rattle.rows.specs.Meaning.{rows_of, rows_room}
use Rattle.states.specs.declared.states.States.{States}
use Rattle.applied.specs.declared.Applied.{Applied}
use Rattle.nodes.specs.declared.Label.{Label}
use Rattle.states.specs.declared.transition.Transition.{Transition}
use Rattle.states.specs.Keys.{key_of, lead_of, transition_key}
use Rattle.states.specs.Leading.{Leads, led}
use Rattle.states.specs.Meaning.{Knows, SameTables, GivesBy, Gives}
use Rattle.states.specs.Placing.{KeepsRow}
use Rattle.states.specs.Room.{lack, Next}
use Rattle.states.proofs.Stepping.{step_known, step_keys, step_row_known, step_rows, step_new}

-- a key that leads nowhere is not in the table
absent_by : (k : Transition) (ks : List Transition) (x : Transition) (b : Bool) (o : Option ℕ) → cond b (Some k.label.0) (led (map lead_of ks) (key_of x.key)) ≡ None → (led (map lead_of ks) (key_of x.key) ≡ None → o ≡ None) → ◌≡◌ {A = Option ℕ} (cond b (Some 0) (option_map suc o)) None
absent_by k ks x true o e rest = absurd (none_some k.label.0 (sym e))
absent_by k ks x false o e rest = ap (option_map suc) (rest e)

absent : (ks : List Transition) (x : Transition) → led (map lead_of ks) (key_of x.key) ≡ None → place_of transition_key ks x ≡ None
unfolding place_of
absent [] x e = refl
absent (k ∷ ks) x e = absent_by k ks x (same_key (key_of k.key) (key_of x.key)) (place_of transition_key ks x) e (absent ks x)

-- each accepted node's kids stand before it
pub accepts_more : (ts : List Tree) (t : Tree) → Accepted ts → ((u : Tree) → In u (kid_trees t) → In u ts) → Accepted (ts ++ t ∷ [])
accepts_more ts t a h i v e u k = elim (nth_more ts t i v e) [
  | inl q ↦ (let b = a i v q u k in (b.0, b.1, nth_front ts (t ∷ []) b.0 u b.2))
  | inr q ↦ (let w = h u (subst (λ z. In u (kid_trees z)) (sym q.1) k) in (w.0, (let s = nth_below ts w.0 u w.1 in omega arith), nth_front ts (t ∷ []) w.0 u w.1))
]

smalls_more : (ts : List Tree) (t : Tree) → ((u : Tree) → In u ts → size u ≤ 2048) → size t ≤ 2048 → (u : Tree) → In u (ts ++ t ∷ []) → size u ≤ 2048
smalls_more ts t h s u k = elim (nth_more ts t k.0 u k.1) [ inl q ↦ h u (k.0, q) | inr q ↦ subst (λ z. size z ≤ 2048) q.1 s ]

module _ {C : Type 0} {cost eq keyed : _} {m : Model C} (l : Laws m) {G : Lists C} (v : States C cost eq keyed) (ts : List Tree) (t : Tree) (k : Knows m G v ts) (next : Next ts t) where
  knows_next : (u : States C cost eq keyed) → Leads m G (ts ++ t ∷ []) (map lead_of (keys_of u.transitions)) → rows_of u.rows ≡ rows_held m G (ts ++ t ∷ []) → u.rows.width ≡ count G → length u.work.now ≡ count G → u.most_keys ≤ room_of u.transitions → u.most_rows ≤ rows_room u.rows → Knows m G u (ts ++ t ∷ [])
  knows_next u b c d e f g = record {
    sealed = k.sealed;
    accepts = accepts_more ts t k.accepts next.before;
    small = smalls_more ts t k.small next.small;
    leads = b;
    rows = c;
    wide = d;
    work = e;
    key_room = f;
    row_room = g;
  }

  gives_none : (w : States C cost eq keyed) {r : Result ℕ NoRoom} {j : ℕ} → lack m G v.most_keys v.most_rows ts t ≡ None → label m G (ts ++ t ∷ []) t ≡ j → r ≡ Ok j → Knows m G w (ts ++ t ∷ []) → Gives m G v w ts t r
  gives_none w {r} e q s h = subst (λ o. GivesBy o m G v w ts t r) (sym e) (s ∙ ap (λ z. Ok z) (sym q), h)

  gives_some : (w : States C cost eq keyed) {r : Result ℕ NoRoom} {e : NoRoom} → lack m G v.most_keys v.most_rows ts t ≡ Some e → r ≡ Err e → Knows m G w ts → SameTables v w → Gives m G v w ts t r
  gives_some w {r} q s h k = subst (λ o. GivesBy o m G v w ts t r) (sym q) (s, h, k)

  -- the key is held
  pub gives_known : (i : ℕ) → Some i ≡ led (map lead_of (keys_of v.transitions)) (key m G ts t) → Gives m G v v ts t (Ok i)
  gives_known i e =
      let s = step_known l k.sealed v.most_keys v.most_rows ts t next k.accepts k.small (map lead_of (keys_of v.transitions)) k.leads i (sym e) in
      gives_none v s.room s.labelled refl (knows_next v s.leads_now (k.rows ∙ sym s.rows) k.wide k.work k.key_room k.row_room)

  -- it is not
  module _ (nowhere : None ≡ led (map lead_of (keys_of v.transitions)) (key m G ts t)) where
    pub gives_no_keys : v.most_keys ≤ length (keys_of v.transitions) → Gives m G v v ts t (Err NoKeys)
    gives_no_keys few =
        let long : length (map lead_of (keys_of v.transitions)) ≡ length (keys_of v.transitions) = length-map (keys_of v.transitions) lead_of in
        gives_some v (step_keys l k.sealed v.most_keys v.most_rows ts t next k.accepts k.small (map lead_of (keys_of v.transitions)) k.leads (sym nowhere) (omega arith)) refl k (record { transitions = refl; rows = refl; most_keys = refl; most_rows = refl })

    module _ (few : length (keys_of v.transitions) < v.most_keys) (x : Row C) (is : x ≡ row m G t) (r : Result ℕ NoRoom) (u : Rows C cost eq keyed) (keeps : KeepsRow m v.rows (rows_held m G ts) x v.most_rows r u) where
      fewer : length (map lead_of (keys_of v.transitions)) < v.most_keys
      fewer = (let long : length (map lead_of (keys_of v.transitions)) ≡ length (keys_of v.transitions) = length-map (keys_of v.transitions) lead_of in omega arith)

      abbrev Outcome : Type 0
      Outcome = ((i : ℕ) × (r ≡ Ok i) × (lack m G v.most_keys v.most_rows ts t ≡ None) × (label m G (ts ++ t ∷ []) t ≡ i) × (rows_of u ≡ rows_held m G (ts ++ t ∷ [])) × Leads m G (ts ++ t ∷ []) (map lead_of (keys_of v.transitions) ++ (key m G ts t, i) ∷ []))
          ⊎ ((r ≡ Err NoRows) × (lack m G v.most_keys v.most_rows ts t ≡ Some NoRows) × (u ≡ v.rows))

      outcome_by : (o : Option ℕ) → row_place m (rows_held m G ts) x ≡ o → Outcome
      outcome_by (Some i) e =
          let s = step_row_known l k.sealed v.most_keys v.most_rows ts t next k.accepts k.small (map lead_of (keys_of v.transitions)) k.leads (sym nowhere) fewer i (ap (row_place m (rows_held m G ts)) (sym is) ∙ e) in
          let q = keeps.known i e in
          inl (i, q.0, s.room, s.labelled, q.1 ∙ sym (s.rows ∙ put_held i e), s.leads_now)
        where
          put_held : (i : ℕ) → row_place m (rows_held m G ts) x ≡ Some i → put (same_row m) (rows_held m G ts) (row m G t) ≡ rows_held m G ts
          put_held i e = put_seen (same_row m) (rows_held m G ts) (row m G t) i (ap (row_place m (rows_held m G ts)) (sym is) ∙ e)
      outcome_by None e =
          let unseen = ap (row_place m (rows_held m G ts)) (sym is) ∙ e in
          ⊎_elim
          (λ (h : length (rows_held m G ts) < v.most_rows).
          let s = step_new l k.sealed v.most_keys v.most_rows ts t next k.accepts k.small (map lead_of (keys_of v.transitions)) k.leads (sym nowhere) fewer unseen h in
          let q = keeps.new e h in
          inl (length (rows_held m G ts), q.0, s.room, s.labelled, q.1 ∙ ap (put (same_row m) (rows_held m G ts)) is ∙ sym s.rows, s.leads_now))
          (λ (h : v.most_rows ≤ length (rows_held m G ts)).
          let q = keeps.full e h in
          inr (q.0, step_rows l k.sealed v.most_keys v.most_rows ts t next k.accepts k.small (map lead_of (keys_of v.transitions)) k.leads (sym nowhere) fewer unseen h, q.1))
          (cases_lt (length (rows_held m G ts)) v.most_rows)

      outcome : Outcome
      outcome = outcome_by (row_place m (rows_held m G ts) x) refl

      -- no room for the row
      pub gives_no_rows : (e : NoRoom) → r ≡ Err e → (o : Result ℕ NoRoom) → o ≡ Err e → (w : States C cost eq keyed) → w.rows ≡ u → w.transitions ≡ v.transitions → length w.work.now ≡ count G → w.most_keys ≡ v.most_keys → w.most_rows ≡ v.most_rows → Gives m G v w ts t o
      gives_no_rows e s o p w a b c d f = elim outcome [
        | inl q ↦ absurd (let y = sym q.1 ∙ s in let z : ◌≡◌ {A = ℕ} 0 1 = cc in omega arith)
        | inr q ↦
            gives_some w q.1 (p ∙ sym s ∙ q.0) (record {
              sealed = k.sealed;
              accepts = k.accepts;
              small = k.small;
              leads = subst (λ z. Leads m G ts (map lead_of (keys_of z))) (sym b) k.leads;
              rows = ap (λ z. rows_of z) (a ∙ q.2) ∙ k.rows;
              wide = ap (λ z. z.width) (a ∙ q.2) ∙ k.wide;
              work = c;
              key_room = (let y = ap (λ z. room_of z) b in let x = k.key_room in omega arith);
              row_room = (let y = ap (λ z. rows_room z) (a ∙ q.2) in let x = k.row_room in omega arith);
            }) (record { transitions = b; rows = a ∙ q.2; most_keys = d; most_rows = f })
      ]

      -- the row has its label, and the key is added
      pub gives_added : (i : ℕ) (n : Applied Label) → key_of n ≡ key m G ts t → r ≡ Ok i → (tr : Table Transition _) → keys_of tr ≡ put_keys transition_key (room_of v.transitions) (keys_of v.transitions) record { key = n; label = record { 0 = i } } → (w : States C cost eq keyed) → w.rows ≡ u → w.transitions ≡ tr → w.rows.width ≡ count G → length w.work.now ≡ count G → w.most_keys ≤ room_of tr → w.most_rows ≤ rows_room w.rows → Gives m G v w ts t (Ok i)
      gives_added i n is_key s tr after w b c d e f g = elim outcome [
        | inl q ↦ (
            let same : q.0 ≡ i = (let y = sym q.1 ∙ s in cc) in
            let new : Transition = record { key = n; label = record { 0 = i } } in
            let space : length (keys_of v.transitions) < room_of v.transitions = (let h = k.key_room in omega arith) in
            let P = put_new transition_key (room_of v.transitions) (keys_of v.transitions) new (absent (keys_of v.transitions) new (ap (led (map lead_of (keys_of v.transitions))) is_key ∙ sym nowhere)) space in
            let listed : map lead_of ((keys_of v.transitions) ++ new ∷ []) ≡ map lead_of (keys_of v.transitions) ++ (key m G ts t, q.0) ∷ [] = map_push lead_of (keys_of v.transitions) new ∙ (λ j. map lead_of (keys_of v.transitions) ++ (is_key j, sym same j) ∷ []) in
            gives_none w q.2 (q.3 ∙ same) refl
            (knows_next w (subst (Leads m G (ts ++ t ∷ [])) (sym (ap (λ z. map lead_of (keys_of z)) c ∙ ap (map lead_of) (after ∙ P.2) ∙ listed)) q.5) (ap (λ z. rows_of z) b ∙ q.4) d e (let y = ap (λ z. room_of z) c in omega arith) g)
            )
        | inr q ↦ absurd (let y = sym s ∙ q.0 in let z : ◌≡◌ {A = ℕ} 0 1 = cc in omega arith)
      ]
