-- The laws of lists of keys: what `place_of` answers, and what a put leaves.
use Rattle.std.proofs.Common.{◌≡◌, ℕ, zero, suc, ◌+◌, ◌<◌, ◌≤◌, Bool, true, false, cond, ◌⊎◌, List, [], ◌∷◌, ◌++◌, length, get_or, Some, None, Ok, Err, Option, refl, ap, ◌∙◌, subst, inl, inr, ⊎_elim, arith, MatchOption}
use Rattle.std.proofs.lemmas.List.{get_or_append_left, get_or_push, length_push}
use Rattle.std.proofs.lemmas.Bool.{both_ways, cases_lt, cases_order, lt-ltb, le-ltb}
use Rattle.std.specs.Option.{option_map}
use Rattle.table.specs.declared.Refusal.{Refusal}
use Rattle.table.specs.declared.Refusal.TheVariants.{Full}
use Rattle.table.specs.Keys.{KeyModel, KeyLaws, Held, Absent, Apart, place_of, put_answer, put_keys, adds}

-- The place found in a list, or else place n where a key there is the same.
abbrev else_at : Option ℕ → Bool → ℕ → Option ℕ
else_at (Some i) b n = Some i
else_at None b n = cond b (Some n) None

module _ {K : Type 0} (m : KeyModel K) where
  -- The laws, where the same keys are the equal ones.
  pub equal_laws : ((x : K) → m.same x x ≡ true) → ((x y : K) → m.same x y ≡ true → x ≡ y) → KeyLaws m
  equal_laws r e = record {
    reflexive = r;
    symmetric = λ x y p. subst (λ z. m.same z x ≡ true) (e x y p) (r x);
    transitive = λ x y z p q. subst (λ w. m.same x w ≡ true) (e y z q) p;
    alike = λ x y p. ap m.scatter (e x y p);
  }

  absent_more : (x : K) (xs : List K) (k : K) → m.same x k ≡ false → Absent m xs k → Absent m (x ∷ xs) k
  absent_more x xs k e h zero d l s = both_ways (m.same x k) e s
  absent_more x xs k e h (suc i) d l s = h i d (omega arith) s

  says_more : (x : K) (xs : List K) (k : K) (b : Bool) → m.same x k ≡ b → (o : Option ℕ) → MatchOption o (Absent m xs k) (Held m xs k)
      → MatchOption (cond b (Some 0) (option_map suc o)) (Absent m (x ∷ xs) k) (Held m (x ∷ xs) k)
  says_more x xs k true e o h = (omega arith, λ d. e)
  says_more x xs k false e None h = absent_more x xs k e h
  says_more x xs k false e (Some i) h = (omega (arith, h.0), h.1)

  -- What the answer says: at a place, that the key there is the same as k; at none, that no key is.
  pub place_says : (keys : List K) (k : K) → MatchOption (place_of m keys k) (Absent m keys k) (Held m keys k)
  unfolding place_of
  place_says [] k = λ i d l s. omega arith
  place_says (x ∷ xs) k = says_more x xs k (m.same x k) refl (place_of m xs k) (place_says xs k)

  pub place_held : (keys : List K) (k : K) (i : ℕ) → place_of m keys k ≡ Some i → Held m keys k i
  place_held keys k i e = subst (λ o. MatchOption o (Absent m keys k) (Held m keys k)) e (place_says keys k)

  pub place_absent : (keys : List K) (k : K) → place_of m keys k ≡ None → Absent m keys k
  place_absent keys k e = subst (λ o. MatchOption o (Absent m keys k) (Held m keys k)) e (place_says keys k)

  pub place_cases : (keys : List K) (k : K) → ((i : ℕ) × (place_of m keys k ≡ Some i)) ⊎ (place_of m keys k ≡ None)
  place_cases keys k =
      let of-option : (o : Option ℕ) → place_of m keys k ≡ o → ((i : ℕ) × (place_of m keys k ≡ Some i)) ⊎ (place_of m keys k ≡ None) =
      λ o. elim o as (λ o. place_of m keys k ≡ o → ((i : ℕ) × (place_of m keys k ≡ Some i)) ⊎ (place_of m keys k ≡ None)) [ None ↦ (λ e. inr e) | Some i ↦ (λ e. inl (i, e)) ] in
      of-option (place_of m keys k) refl

  pub absent_place : (keys : List K) (k : K) → Absent m keys k → place_of m keys k ≡ None
  absent_place keys k h =
      ⊎_elim
      (λ (p : (i : ℕ) × (place_of m keys k ≡ Some i)).
      let at = place_held keys k p.0 p.1 in absurd (h p.0 k at.0 (at.1 k)))
      (λ (e : place_of m keys k ≡ None). e)
      (place_cases keys k)

  module _ (laws : KeyLaws m) where
    -- At most one place holds a key that is the same as k.
    pub held_once : (keys : List K) (k : K) (i j : ℕ) → Apart m keys → Held m keys k i → Held m keys k j → i ≡ j
    held_once keys k i j a p q =
        ⊎_elim
        (λ (e : i ≡ j). e)
        (⊎_elim
        (λ (l : i < j). absurd (a i j k l q.0 (laws.transitive _ _ _ (p.1 k) (laws.symmetric _ _ (q.1 k)))))
        (λ (l : j < i). absurd (a j i k l p.0 (laws.transitive _ _ _ (q.1 k) (laws.symmetric _ _ (p.1 k))))))
        (cases_order i j)

    pub held_place : (keys : List K) (k : K) (i : ℕ) → Apart m keys → Held m keys k i → place_of m keys k ≡ Some i
    held_place keys k i a h =
        ⊎_elim
        (λ (p : (j : ℕ) × (place_of m keys k ≡ Some j)).
        p.1 ∙ ap (λ j. Some j) (held_once keys k p.0 i a (place_held keys k p.0 p.1) h))
        (λ (e : place_of m keys k ≡ None). absurd (place_absent keys k e i k h.0 (h.1 k)))
        (place_cases keys k)

  -- A new key at the end leaves the keys apart.
  pub apart_push : (keys : List K) (k : K) → Apart m keys → Absent m keys k → Apart m (keys ++ k ∷ [])
  apart_push keys k a h i j d l b s =
      let n : j < length keys + 1 = omega (arith, length_push keys k) in
      let i-at : i < length keys → get_or (keys ++ k ∷ []) i d ≡ get_or keys i d = λ q. get_or_append_left keys (k ∷ []) d i q in
      ⊎_elim
      (λ (q : j < length keys).
      a i j d l q (rw (i-at (omega arith), get_or_append_left keys (k ∷ []) d j q) at s))
      (λ (q : length keys ≤ j).
      let e : length keys ≡ j = omega arith in
      let o : i < length keys = omega arith in
      h i d o (rw (i-at o, get_or_push keys k d j e) at s))
      (cases_lt j (length keys))

  push_step : (b c : Bool) (o : Option ℕ) (n : ℕ)
      → cond b (Some 0) (option_map suc (else_at o c n)) ≡ else_at (cond b (Some 0) (option_map suc o)) c (suc n)
  push_step true c o n = refl
  push_step false c (Some i) n = refl
  push_step false true None n = refl
  push_step false false None n = refl

  -- The place of q once k stands at the end of the list.
  place_push : (keys : List K) (k q : K) → place_of m (keys ++ k ∷ []) q ≡ else_at (place_of m keys q) (m.same k q) (length keys)
  unfolding place_of
  place_push [] k q = refl
  place_push (x ∷ xs) k q =
      ap (λ o. cond (m.same x q) (Some 0) (option_map suc o)) (place_push xs k q)
      ∙ push_step (m.same x q) (m.same k q) (place_of m xs q) (length xs)

  pub place_push_held : (keys : List K) (k q : K) (i : ℕ) → place_of m keys q ≡ Some i → place_of m (keys ++ k ∷ []) q ≡ Some i
  place_push_held keys k q i e = place_push keys k q ∙ rw e

  pub place_push_new : (keys : List K) (k q : K) → place_of m keys q ≡ None → m.same k q ≡ true
      → place_of m (keys ++ k ∷ []) q ≡ Some (length keys)
  place_push_new keys k q e s = place_push keys k q ∙ rw (e, s)

  pub place_push_other : (keys : List K) (k q : K) → place_of m keys q ≡ None → m.same k q ≡ false
      → place_of m (keys ++ k ∷ []) q ≡ None
  place_push_other keys k q e s = place_push keys k q ∙ rw (e, s)

  -- What a put does in each of its three cases.
  pub put_held : (room : ℕ) (keys : List K) (k : K) (i : ℕ) → place_of m keys k ≡ Some i
      → (put_answer m room keys k ≡ Ok i) × (adds m room keys k ≡ false) × (put_keys m room keys k ≡ keys)
  put_held room keys k i e = (rw e, rw e, rw e)

  pub put_new : (room : ℕ) (keys : List K) (k : K) → place_of m keys k ≡ None → length keys < room
      → (put_answer m room keys k ≡ Ok (length keys)) × (adds m room keys k ≡ true) × (put_keys m room keys k ≡ keys ++ k ∷ [])
  put_new room keys k e l = let t = lt-ltb (length keys) room l in (rw (e, t), rw (e, t), rw (e, t))

  pub put_full : (room : ℕ) (keys : List K) (k : K) → place_of m keys k ≡ None → room ≤ length keys
      → (put_answer m room keys k ≡ Err Full) × (adds m room keys k ≡ false) × (put_keys m room keys k ≡ keys)
  put_full room keys k e l = let t = le-ltb (length keys) room l in (rw (e, t), rw (e, t), rw (e, t))

  -- An accepted put answers the place at which its key is found from then on.
  pub put_found : (room : ℕ) (keys : List K) (k : K) (i : ℕ) → m.same k k ≡ true → put_answer m room keys k ≡ Ok i
      → place_of m (put_keys m room keys k) k ≡ Some i
  put_found room keys k i own e =
      ⊎_elim
      (λ (p : (j : ℕ) × (place_of m keys k ≡ Some j)).
      let h = put_held room keys k p.0 p.1 in
      let same : p.0 ≡ i = cc h.0 in
      ap (λ ks. place_of m ks k) h.2 ∙ p.1 ∙ ap (λ j. Some j) same)
      (λ (p : place_of m keys k ≡ None).
      ⊎_elim
      (λ (l : length keys < room).
      let h = put_new room keys k p l in
      let same : length keys ≡ i = cc h.0 in
      ap (λ ks. place_of m ks k) h.2 ∙ place_push_new keys k k p own ∙ ap (λ j. Some j) same)
      (λ (l : room ≤ length keys).
      let h = put_full room keys k p l in
      let z : ◌≡◌ {A = ℕ} 0 1 = cc h.0 in
      absurd (omega arith))
      (cases_lt (length keys) room))
      (place_cases keys k)

  -- A refused put leaves the list.
  pub put_refused : (room : ℕ) (keys : List K) (k : K) (e : Refusal) → put_answer m room keys k ≡ Err e
      → put_keys m room keys k ≡ keys
  put_refused room keys k e q =
      ⊎_elim
      (λ (p : (j : ℕ) × (place_of m keys k ≡ Some j)). (put_held room keys k p.0 p.1).2)
      (λ (p : place_of m keys k ≡ None).
      ⊎_elim
      (λ (l : length keys < room).
      let h = put_new room keys k p l in
      let z : ◌≡◌ {A = ℕ} 0 1 = cc h.0 in
      absurd (omega arith))
      (λ (l : room ≤ length keys). (put_full room keys k p l).2)
      (cases_lt (length keys) room))
      (place_cases keys k)
