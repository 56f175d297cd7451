-- Labels, rows held and keys held.
use Rattle.std.proofs.Common.{◌≡◌, ℕ, suc, Bool, true, false, cond, eqb, List, [], ◌∷◌, ◌++◌, map, Some, None, Decides, Option, Ordering, Less, Equal, Greater, sym, refl, ap, ◌∙◌, true≢false, arith}
use Rattle.std.proofs.lemmas.List.{map-append}
use Rattle.std.proofs.lemmas.Bool.{eqb-true, eq-eqb}
use Rattle.std.specs.List.{slice_get}
use Rattle.std.specs.Ordering.{is_eq}
use Rattle.cost.specs.Model.{Model, Laws}
use Rattle.grammar.specs.Lists.{Lists}
use Rattle.covers.specs.Trees.{leaf, unary, binary, Tree, node0, node1, node2}
use Rattle.covers.specs.Rows.{Row, row}
use Rattle.covers.specs.Held.{same_entry, same_row, Key, same_key, place, put_all, different, rows_held, label, key, keys_held, kid_trees, Accepted, In, Counts}
use Rattle.covers.proofs.Relaxing.{some_is, none_some}
use Rattle.covers.proofs.Order.{cost_order, itself}
use Rattle.covers.proofs.Nths.{nth_map}
use Rattle.covers.proofs.Places.{place_in, place_one, place_front, put_all_split, put_all_begins, counts}

-- ---- each test tells whether two are one

both_true : (b c : Bool) → cond b c false ≡ true → (b ≡ true) × (c ≡ true)
both_true true c h = (refl, h)
both_true false c h = absurd (true≢false (sym h))

from_both : (b c : Bool) → b ≡ true → c ≡ true → cond b c false ≡ true
from_both b c h k = ap (λ z. cond z c false) h ∙ k

is_equal : (r : Ordering) → is_eq r ≡ true → r ≡ Equal
is_equal Less e = absurd (true≢false (sym e))
is_equal Equal e = refl
is_equal Greater e = absurd (true≢false (sym e))

not_true : {A : Type 0} → false ≡ true → A
not_true e = absurd (true≢false (sym e))

pub same_key_tells : (a b : Key) → Decides (same_key a b) (a ≡ b)
same_key_tells (leaf x) (leaf y) = (λ h. ap leaf (eqb-true x y h), λ e. eq-eqb x y (cc))
same_key_tells (leaf x) (unary y c) = (not_true, λ e. (let z : ◌≡◌ {A = ℕ} 0 1 = cc in absurd (omega arith)))
same_key_tells (leaf x) (binary y c d) = (not_true, λ e. (let z : ◌≡◌ {A = ℕ} 0 1 = cc in absurd (omega arith)))
same_key_tells (unary x a) (leaf y) = (not_true, λ e. (let z : ◌≡◌ {A = ℕ} 0 1 = cc in absurd (omega arith)))
same_key_tells (unary x a) (unary y c) = (λ h. (let k = both_true (eqb x y) (eqb a c) h in λ i. unary (eqb-true x y k.0 i) (eqb-true a c k.1 i)), λ e. from_both (eqb x y) (eqb a c) (eq-eqb x y (cc)) (eq-eqb a c (cc)))
same_key_tells (unary x a) (binary y c d) = (not_true, λ e. (let z : ◌≡◌ {A = ℕ} 0 1 = cc in absurd (omega arith)))
same_key_tells (binary x a b) (leaf y) = (not_true, λ e. (let z : ◌≡◌ {A = ℕ} 0 1 = cc in absurd (omega arith)))
same_key_tells (binary x a b) (unary y c) = (not_true, λ e. (let z : ◌≡◌ {A = ℕ} 0 1 = cc in absurd (omega arith)))
same_key_tells (binary x a b) (binary y c d) =
    (λ h. (let k = both_true (eqb x y) (cond (eqb a c) (eqb b d) false) h in let j = both_true (eqb a c) (eqb b d) k.1 in λ i. binary (eqb-true x y k.0 i) (eqb-true a c j.0 i) (eqb-true b d j.1 i)), λ e. from_both (eqb x y) (cond (eqb a c) (eqb b d) false) (eq-eqb x y (cc)) (from_both (eqb a c) (eqb b d) (eq-eqb a c (cc)) (eq-eqb b d (cc))))

module _ {C : Type 0} {m : Model C} (l : Laws m) where
  same_entry_tells : (a b : Option (ℕ × C)) → Decides (same_entry m a b) (a ≡ b)
  same_entry_tells None None = (λ _. refl, λ _. refl)
  same_entry_tells None (Some y) = (not_true, λ e. absurd (none_some y e))
  same_entry_tells (Some x) None = (not_true, λ e. absurd (none_some x (sym e)))
  same_entry_tells (Some x) (Some y) = (to, from)
    where
      to : same_entry m (Some x) (Some y) ≡ true → Some x ≡ Some y
      to h =
          let k = both_true (eqb x.0 y.0) (is_eq (m.cmp x.1 y.1)) h in
          let a = eqb-true x.0 y.0 k.0 in
          let b = l.cmp_same x.1 y.1 (is_equal (m.cmp x.1 y.1) k.1) in
          λ i. Some (a i, b i)

      from : Some x ≡ Some y → same_entry m (Some x) (Some y) ≡ true
      from e =
          let s = some_is x y e in
          from_both (eqb x.0 y.0) (is_eq (m.cmp x.1 y.1)) (eq-eqb x.0 y.0 (ap (λ z. z.0) s)) (ap (λ z. is_eq (m.cmp x.1 z.1)) (sym s) ∙ ap is_eq (itself (cost_order l) x.1))

  pub same_row_tells : (a b : Row C) → Decides (same_row m a b) (a ≡ b)
  same_row_tells [] [] = (λ _. refl, λ _. refl)
  same_row_tells [] (y ∷ ys) = (not_true, λ e. (let z : ◌≡◌ {A = ℕ} 0 1 = cc in absurd (omega arith)))
  same_row_tells (x ∷ xs) [] = (not_true, λ e. (let z : ◌≡◌ {A = ℕ} 0 1 = cc in absurd (omega arith)))
  same_row_tells (x ∷ xs) (y ∷ ys) =
      let rest = same_row_tells xs ys in
      let here = same_entry_tells x y in
      (λ h. (let k = both_true (same_entry m x y) (same_row m xs ys) h in λ i. here.0 k.0 i ∷ rest.0 k.1 i), λ e. from_both (same_entry m x y) (same_row m xs ys) (here.1 (cc)) (rest.1 (cc)))

  module _ (G : Lists C) where
    pub row_held : (ts : List Tree) (t : Tree) → In t ts → In (row m G t) (rows_held m G ts)
    row_held ts t h = (counts (same_row m) same_row_tells (map (row m G) ts)).all (row m G t) (h.0, nth_map (row m G) ts h.0 t h.1)

    pub label_at : (ts : List Tree) (t : Tree) → In t ts → slice_get (rows_held m G ts) (label m G ts t) ≡ Some (row m G t)
    label_at ts t h = (let k = row_held ts t h in place_in (same_row m) same_row_tells (rows_held m G ts) (row m G t) k.0 k.1)

    pub label_row : (ts : List Tree) (t u : Tree) → In t ts → In u ts → label m G ts t ≡ label m G ts u → row m G t ≡ row m G u
    label_row ts t u h k = place_one (same_row m) same_row_tells (rows_held m G ts) (row m G t) (row m G u) (row_held ts t h) (row_held ts u k)

    -- ---- more nodes leave the labels and keys

    pub rows_more : (ts us : List Tree) → rows_held m G (ts ++ us) ≡ put_all (same_row m) (rows_held m G ts) (map (row m G) us)
    rows_more ts us = ap (different (same_row m)) (map-append (row m G) ts us) ∙ put_all_split (same_row m) [] (map (row m G) ts) (map (row m G) us)

    pub label_stays : (ts us : List Tree) (t : Tree) → In t ts → label m G (ts ++ us) t ≡ label m G ts t
    label_stays ts us t h =
        let k = row_held ts t h in
        let b = put_all_begins (same_row m) same_row_tells (rows_held m G ts) (map (row m G) us) in
        ap (λ z. place (same_row m) z (row m G t)) (rows_more ts us ∙ b.1) ∙ place_front (same_row m) same_row_tells (rows_held m G ts) b.0 (row m G t) k.0 k.1

    pub key_same : (ts us : List Tree) (t : Tree) → ((u : Tree) → In u (kid_trees t) → In u ts) → key m G (ts ++ us) t ≡ key m G ts t
    key_same ts us (node0 op p) h = refl
    key_same ts us (node1 op p t) h = ap (unary op) (label_stays ts us t (h t (0, refl)))
    key_same ts us (node2 op p t u) h = λ i. binary op (label_stays ts us t (h t (0, refl)) i) (label_stays ts us u (h u (1, refl)) i)

    pub key_stays : (ts us : List Tree) → Accepted ts → (t : Tree) → In t ts → key m G (ts ++ us) t ≡ key m G ts t
    key_stays ts us a t h = key_same ts us t (λ u k. (let b = a h.0 t h.1 u k in (b.0, b.2)))

    pub map_same : {A B : Type 0} (f g : A → B) (xs : List A) → ((x : A) → In x xs → f x ≡ g x) → map f xs ≡ map g xs
    map_same f g [] h = refl
    map_same f g (x ∷ xs) h = λ i. h x (0, refl) i ∷ map_same f g xs (λ y k. h y (suc k.0, k.1)) i

    pub keys_more : (ts us : List Tree) → Accepted ts → keys_held m G (ts ++ us) ≡ put_all same_key (keys_held m G ts) (map (key m G (ts ++ us)) us)
    keys_more ts us a =
        ap (different same_key) (map-append (key m G (ts ++ us)) ts us) ∙ put_all_split same_key [] (map (key m G (ts ++ us)) ts) (map (key m G (ts ++ us)) us) ∙ ap (λ z. put_all same_key (different same_key z) (map (key m G (ts ++ us)) us)) (map_same (key m G (ts ++ us)) (key m G ts) ts (key_stays ts us a))

    pub rows_count : (ts : List Tree) → Counts (map (row m G) ts) (rows_held m G ts)
    rows_count ts = counts (same_row m) same_row_tells (map (row m G) ts)

    pub keys_count : (ts : List Tree) → Counts (map (key m G ts) ts) (keys_held m G ts)
    keys_count ts = counts same_key same_key_tells (map (key m G ts) ts)
