-- How rows, keys and labels grow by one accepted node.
use Rattle.std.proofs.Common.{◌≡◌, ℕ, zero, suc, ◌<◌, ◌≤◌, Bool, true, false, cond, List, [], ◌∷◌, ◌++◌, length, get_or, Some, Decides, Option, sym, refl, ap, ◌∙◌, subst, inl, inr, arith}
use Rattle.std.specs.List.{slice_get}
use Rattle.std.proofs.lemmas.List.{map-append}
use Rattle.cost.specs.Model.{Model, Laws}
use Rattle.grammar.specs.Lists.{Lists, Sealed}
use Rattle.covers.specs.Trees.{unary, binary, Tree, node0, node1, node2, size}
use Rattle.covers.specs.Rows.{row, row_from}
use Rattle.covers.specs.Held.{Key, same_key, same_row, place, put, In, Accepted, kid_trees, rows_held, label, key, keys_held}
use Rattle.covers.proofs.Relaxing.{some_is, none_some}
use Rattle.covers.proofs.Nths.{nth_below, nth_front, nth_more, nth_back, nth_map}
use Rattle.covers.proofs.Places.{place_in, put_is, in_more}
use Rattle.covers.proofs.Labels.{same_row_tells, same_key_tells, row_held, label_at, rows_more, label_stays, key_same, key_stays, keys_more}
use Rattle.covers.proofs.RowSteps.{row_step0, row_step1, row_step2}
use Rattle.states.specs.Leading.{row_of_label, key_rows, Leads}

nth_read : {A : Type 0} (xs : List A) (i : ℕ) (x d : A) → slice_get xs i ≡ Some x → get_or xs i d ≡ x
nth_read [] i x d e = absurd (none_some x e)
nth_read (y ∷ ys) zero x d e = some_is y x e
nth_read (y ∷ ys) (suc i) x d e = nth_read ys i x d e

-- ---- the place of what is not in the list is its length

module _ {A : Type 0} (same : A → A → Bool) (tells : (a b : A) → Decides (same a b) (a ≡ b)) where
  pub place_below : (xs : List A) (x : A) → In x xs → place same xs x < length xs
  place_below xs x h = nth_below xs (place same xs x) x (place_in same tells xs x h.0 h.1)

  absent_by : (y : A) (ys : List A) (x : A) (b : Bool) → same y x ≡ b → (slice_get (y ∷ ys) 0 ≡ Some x → ⊥) → place same ys x ≡ length ys → ◌≡◌ {A = ℕ} (cond b 0 (suc (place same ys x))) (suc (length ys))
  absent_by y ys x true s h rest = absurd (h (ap {B = Option A} Some ((tells y x).0 s)))
  absent_by y ys x false s h rest = ap suc rest

  pub place_absent : (xs : List A) (x : A) → ((i : ℕ) → slice_get xs i ≡ Some x → ⊥) → place same xs x ≡ length xs
  place_absent [] x h = refl
  place_absent (y ∷ ys) x h = absent_by y ys x (same y x) refl (h 0) (place_absent ys x (λ i e. h (suc i) e))

  -- what is put in stands at its place
  pub place_put : (xs : List A) (x : A) → slice_get (put same xs x) (place same (put same xs x) x) ≡ Some x
  place_put xs x = elim (put_is same tells xs x) [
    | inl h ↦ place_in same tells (put same xs x) x h.0.0 (ap (λ z. slice_get z h.0.0) h.1 ∙ h.0.1)
    | inr h ↦ (let k = in_more same tells xs x in place_in same tells (put same xs x) x k.0 (ap (λ z. slice_get z k.0) h.1 ∙ k.1))
  ]

-- ---- one more accepted node t, whose kids were accepted before it

module _ {C : Type 0} {m : Model C} (l : Laws m) {G : Lists C} (sealed : Sealed m G) where
  -- the row of a node stands at its label
  pub labelled_row : (ts : List Tree) (t : Tree) → In t ts → row m G t ≡ row_of_label (rows_held m G ts) (label m G ts t)
  labelled_row ts t h = sym (nth_read (rows_held m G ts) (label m G ts t) (row m G t) [] (label_at l G ts t h))

  -- the row of a node from the labels of its kids
  pub row_by_key : (ts : List Tree) (t : Tree) → size t ≤ 2048 → ((u : Tree) → In u (kid_trees t) → In u ts) → row m G t ≡ row_from m G (key_rows (rows_held m G ts) (key m G ts t))
  row_by_key ts (node0 op p) s h = row_step0 l sealed op p
  row_by_key ts (node1 op p t) s h = row_step1 l sealed op p t s ∙ ap (λ z. row_from m G (unary op z)) (labelled_row ts t (h t (0, refl)))
  row_by_key ts (node2 op p t u) s h = (let a = labelled_row ts t (h t (0, refl)) in let b = labelled_row ts u (h u (1, refl)) in row_step2 l sealed op p t u s ∙ (λ i. row_from m G (binary op (a i) (b i))))

  -- nodes with one key have one row
  pub key_row : (ts : List Tree) (t u : Tree) → size t ≤ 2048 → size u ≤ 2048 → ((v : Tree) → In v (kid_trees t) → In v ts) → ((v : Tree) → In v (kid_trees u) → In v ts) → key m G ts t ≡ key m G ts u → row m G t ≡ row m G u
  key_row ts t u s r h k e = row_by_key ts t s h ∙ ap (λ z. row_from m G (key_rows (rows_held m G ts) z)) e ∙ sym (row_by_key ts u r k)

  pub rows_next : (ts : List Tree) (t : Tree) → rows_held m G (ts ++ t ∷ []) ≡ put (same_row m) (rows_held m G ts) (row m G t)
  rows_next ts t = rows_more l G ts (t ∷ [])

  pub keys_next : (ts : List Tree) (t : Tree) → Accepted ts → ((u : Tree) → In u (kid_trees t) → In u ts) → keys_held m G (ts ++ t ∷ []) ≡ put same_key (keys_held m G ts) (key m G ts t)
  keys_next ts t a h = keys_more l G ts (t ∷ []) a ∙ ap (put same_key (keys_held m G ts)) (key_same l G ts (t ∷ []) t h)

  pub label_next : (ts : List Tree) (t : Tree) → label m G (ts ++ t ∷ []) t ≡ place (same_row m) (put (same_row m) (rows_held m G ts) (row m G t)) (row m G t)
  label_next ts t = ap (λ z. place (same_row m) z (row m G t)) (rows_next ts t)

  module _ (ts : List Tree) (t : Tree) (small : size t ≤ 2048) (before : (u : Tree) → In u (kid_trees t) → In u ts) (accepts : Accepted ts) (smalls : (u : Tree) → In u ts → size u ≤ 2048) (ks : List (Key × ℕ)) (leads : Leads m G ts ks) where
    kids_in : (u : Tree) → In u ts → (v : Tree) → In v (kid_trees u) → In v ts
    kids_in u h v k = (let b = accepts h.0 u h.1 v k in (b.0, b.2))

    more : List Tree
    more = ts ++ t ∷ []

    in_ts : (u : Tree) → In u ts → In u (ts ++ t ∷ [])
    in_ts u h = (h.0, nth_front ts (t ∷ []) h.0 u h.1)

    keeps : (i : ℕ) (k : Key × ℕ) → slice_get ks i ≡ Some k → (u : Tree) × In u (ts ++ t ∷ []) × (key m G (ts ++ t ∷ []) u ≡ k.0) × (label m G (ts ++ t ∷ []) u ≡ k.1)
    keeps i k e =
        let h = leads.labelled i k e in
        (h.0, in_ts h.0 h.1, key_stays l G ts (t ∷ []) accepts h.0 h.1 ∙ h.2, label_stays l G ts (t ∷ []) h.0 h.1 ∙ h.3)

    -- where the key is held, it leads to the node's label, and nothing is added
    pub leads_to : (i : ℕ) (k : Key × ℕ) → slice_get ks i ≡ Some k → k.0 ≡ key m G ts t → label m G (ts ++ t ∷ []) t ≡ k.1
    leads_to i k e same =
        let h = leads.labelled i k e in
        let rows = key_row ts t h.0 small (smalls h.0 h.1) before (kids_in h.0 h.1) (sym same ∙ sym h.2) in
        ap (place (same_row m) (rows_held m G (ts ++ t ∷ []))) rows ∙ label_stays l G ts (t ∷ []) h.0 h.1 ∙ h.3

    pub row_is_held : (i : ℕ) (k : Key × ℕ) → slice_get ks i ≡ Some k → k.0 ≡ key m G ts t → In (row m G t) (rows_held m G ts)
    row_is_held i k e same =
        let h = leads.labelled i k e in
        let rows = key_row ts t h.0 small (smalls h.0 h.1) before (kids_in h.0 h.1) (sym same ∙ sym h.2) in
        subst (λ z. In z (rows_held m G ts)) (sym rows) (row_held l G ts h.0 h.1)

    key_is_held : (i : ℕ) (k : Key × ℕ) → slice_get ks i ≡ Some k → k.0 ≡ key m G ts t → In (key m G ts t) (keys_held m G ts)
    key_is_held i k e same = (i, ap (λ z. slice_get z i) (sym leads.keyed) ∙ nth_map (λ z. z.0) ks i k e ∙ ap {B = Option Key} Some same)

    put_held : {A : Type 0} (same : A → A → Bool) → ((a b : A) → Decides (same a b) (a ≡ b)) → (xs : List A) (x : A) → In x xs → put same xs x ≡ xs
    put_held same tells xs x h = elim (put_is same tells xs x) [ inl k ↦ k.1 | inr k ↦ absurd (k.0 h.0 h.1) ]

    pub keys_same : (i : ℕ) (k : Key × ℕ) → slice_get ks i ≡ Some k → k.0 ≡ key m G ts t → keys_held m G (ts ++ t ∷ []) ≡ keys_held m G ts
    keys_same i k e same = keys_next ts t accepts before ∙ put_held same_key same_key_tells (keys_held m G ts) (key m G ts t) (key_is_held i k e same)

    pub rows_same : In (row m G t) (rows_held m G ts) → rows_held m G (ts ++ t ∷ []) ≡ rows_held m G ts
    rows_same h = rows_next ts t ∙ put_held (same_row m) (same_row_tells l) (rows_held m G ts) (row m G t) h

    pub leads_same : (i : ℕ) (k : Key × ℕ) → slice_get ks i ≡ Some k → k.0 ≡ key m G ts t → Leads m G (ts ++ t ∷ []) ks
    leads_same i k e same = record { keyed = leads.keyed ∙ sym (keys_same i k e same); labelled = keeps }

    -- where it is new, it is added with the node's label
    put_new : {A : Type 0} (same : A → A → Bool) → ((a b : A) → Decides (same a b) (a ≡ b)) → (xs : List A) (x : A) → ((i : ℕ) → slice_get xs i ≡ Some x → ⊥) → put same xs x ≡ xs ++ x ∷ []
    put_new same tells xs x h = elim (put_is same tells xs x) [ inl k ↦ absurd (h k.0.0 k.0.1) | inr k ↦ k.1 ]

    pub leads_more : ((i : ℕ) → slice_get (keys_held m G ts) i ≡ Some (key m G ts t) → ⊥) → Leads m G (ts ++ t ∷ []) (ks ++ (key m G ts t, label m G (ts ++ t ∷ []) t) ∷ [])
    leads_more new = record {
      keyed = map-append (λ (z : Key × ℕ). z.0) ks ((key m G ts t, label m G (ts ++ t ∷ []) t) ∷ []) ∙ ap (λ z. z ++ key m G ts t ∷ []) leads.keyed ∙ sym (keys_next ts t accepts before ∙ put_new same_key same_key_tells (keys_held m G ts) (key m G ts t) new);
      labelled = λ i k e. elim (nth_more ks (key m G ts t, label m G (ts ++ t ∷ []) t) i k e) [
        | inl h ↦ keeps i k h
        | inr h ↦ (t, (length ts, nth_back ts (t ∷ []) 0 (length ts) (omega arith)), key_same l G ts (t ∷ []) t before ∙ ap (λ z. z.0) h.1, ap (λ z. z.1) h.1)
      ];
    }
