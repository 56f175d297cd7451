-- Numbers in lists, by the computed tests and by the relations.
use Rattle.std.proofs.Common.{◌≡◌, ℕ, ◌≤◌, true, false, not, ◌&&◌, eqb, ltb, List, [], ◌∷◌, ◌++◌, length, sym, refl, ap, ◌∙◌, arith}
use Rattle.std.proofs.lemmas.List.{append-nil, append_assoc}
use Rattle.std.proofs.lemmas.Bool.{eqb-false, ne_eqb, or_parts, or_from, and_parts, and_from, ltb-true, lt-ltb, not-true, not_from_false}
use Rattle.covers.specs.Covers.{Apart, Distinct}
use Rattle.covers.specs.Nodes.{Node, kids, all_kids, Below}
use Rattle.nodes.specs.Checks.{among, free, all_free, all_below}

pub among_apart : (k : ℕ) (xs : List ℕ) → among k xs ≡ false → Apart k xs
among_apart k [] h = tt
among_apart k (x ∷ xs) h = (let p = or_parts (eqb k x) (among k xs) h in (eqb-false k x p.0, among_apart k xs p.1))

pub apart_among : (k : ℕ) (xs : List ℕ) → Apart k xs → among k xs ≡ false
apart_among k [] h = refl
apart_among k (x ∷ xs) h = or_from (eqb k x) (among k xs) (ne_eqb k x h.0) (apart_among k xs h.1)

pub below_apart : (n k : ℕ) (xs : List ℕ) → n ≤ k → Below n xs → Apart k xs
below_apart n k [] l h = tt
below_apart n k (x ∷ xs) l h = ((λ e. omega (arith, h.0)), below_apart n k xs l h.1)

pub below_join : (n : ℕ) (xs ys : List ℕ) → Below n xs → Below n ys → Below n (xs ++ ys)
below_join n [] ys h k = k
below_join n (x ∷ xs) ys h k = (h.0, below_join n xs ys h.1 k)

pub below_raised : (m n : ℕ) (xs : List ℕ) → m ≤ n → Below m xs → Below n xs
below_raised m n [] l h = tt
below_raised m n (x ∷ xs) l h = (omega (arith, h.0), below_raised m n xs l h.1)

-- the computed test says the same as the relation
pub all_below_is : (n : ℕ) (xs : List ℕ) → all_below n xs ≡ true → Below n xs
all_below_is n [] h = tt
all_below_is n (x ∷ xs) h = (let p = and_parts (ltb x n) (all_below n xs) h in (ltb-true x n p.0, all_below_is n xs p.1))

pub below_all : (n : ℕ) (xs : List ℕ) → Below n xs → all_below n xs ≡ true
below_all n [] h = refl
below_all n (x ∷ xs) h = and_from (ltb x n) (all_below n xs) (lt-ltb x n h.0) (below_all n xs h.1)

-- none of the numbers ks is among xs
abbrev pub Outside : List ℕ → List ℕ → Type 0
Outside xs [] = Unit {0}
Outside xs (k ∷ ks) = Apart k xs × Outside xs ks

apart_join : (k : ℕ) (xs ys : List ℕ) → Apart k xs → Apart k ys → Apart k (xs ++ ys)
apart_join k [] ys h g = g
apart_join k (x ∷ xs) ys h g = (h.0, apart_join k xs ys h.1 g)

apart_left : (k : ℕ) (xs ys : List ℕ) → Apart k (xs ++ ys) → Apart k xs
apart_left k [] ys h = tt
apart_left k (x ∷ xs) ys h = (h.0, apart_left k xs ys h.1)

apart_right : (k : ℕ) (xs ys : List ℕ) → Apart k (xs ++ ys) → Apart k ys
apart_right k [] ys h = h
apart_right k (x ∷ xs) ys h = apart_right k xs ys h.1

outside_head : (x : ℕ) (xs ks : List ℕ) → Outside (x ∷ xs) ks → Apart x ks
outside_head x xs [] o = tt
outside_head x xs (k ∷ ks) o = ((λ e. o.0.0 (sym e)), outside_head x xs ks o.1)

outside_tail : (x : ℕ) (xs ks : List ℕ) → Outside (x ∷ xs) ks → Outside xs ks
outside_tail x xs [] o = tt
outside_tail x xs (k ∷ ks) o = (o.0.1, outside_tail x xs ks o.1)

outside_more : (x : ℕ) (xs ks : List ℕ) → Apart x ks → Outside xs ks → Outside (x ∷ xs) ks
outside_more x xs [] a o = tt
outside_more x xs (k ∷ ks) a o = (((λ e. a.0 (sym e)), o.0), outside_more x xs ks a.1 o.1)

outside_none : (ks : List ℕ) → Outside [] ks
outside_none [] = tt
outside_none (k ∷ ks) = (tt, outside_none ks)

pub distinct_join : (xs ks : List ℕ) → Distinct xs → Distinct ks → Outside xs ks → Distinct (xs ++ ks)
distinct_join [] ks d e o = e
distinct_join (x ∷ xs) ks d e o = (apart_join x xs ks d.0 (outside_head x xs ks o), distinct_join xs ks d.1 e (outside_tail x xs ks o))

pub distinct_parts : (xs ks : List ℕ) → Distinct (xs ++ ks) → Distinct ks × Outside xs ks
distinct_parts [] ks d = (d, outside_none ks)
distinct_parts (x ∷ xs) ks d = (let p = distinct_parts xs ks d.1 in (p.0, outside_more x xs ks (apart_right x xs ks d.0) p.1))

-- the kids of a list with one node more
pub all_kids_more : (ns : List Node) (x : Node) → all_kids (ns ++ x ∷ []) ≡ all_kids ns ++ kids x.top
all_kids_more [] x = append-nil (kids x.top)
all_kids_more (y ∷ ns) x = ap (λ z. kids y.top ++ z) (all_kids_more ns x) ∙ sym (append_assoc (kids y.top) (all_kids ns) (kids x.top))

-- what the test of a node's kids says
pub record Free (ns : List Node) (ks : List ℕ) : Type 0 where
  pub below : Below (length ns) ks
  pub distinct : Distinct ks
  pub outside : Outside (all_kids ns) ks

pub all_free_is : (ns : List Node) (ks : List ℕ) → all_free ns ks ≡ true → Free ns ks
all_free_is ns [] h = record { below = tt; distinct = tt; outside = tt }
all_free_is ns (k ∷ ks) h =
    let p = and_parts (free ns k && not (among k ks)) (all_free ns ks) h in
    let q = and_parts (free ns k) (not (among k ks)) p.0 in
    let r = and_parts (ltb k (length ns)) (not (among k (all_kids ns))) q.0 in
    let f = all_free_is ns ks p.1 in
    record {
      below = (ltb-true k (length ns) r.0, f.below);
      distinct = (among_apart k ks (not-true (among k ks) q.1), f.distinct);
      outside = (among_apart k (all_kids ns) (not-true (among k (all_kids ns)) r.1), f.outside);
    }

pub free_all : (ns : List Node) (ks : List ℕ) → Below (length ns) ks → Distinct ks → Outside (all_kids ns) ks → all_free ns ks ≡ true
free_all ns [] b d o = refl
free_all ns (k ∷ ks) b d o =
    and_from (free ns k && not (among k ks)) (all_free ns ks)
    (and_from (free ns k) (not (among k ks))
    (and_from (ltb k (length ns)) (not (among k (all_kids ns))) (lt-ltb k (length ns) b.0) (not_from_false (among k (all_kids ns)) (apart_among k (all_kids ns) o.0)))
    (not_from_false (among k ks) (apart_among k ks d.0)))
    (free_all ns ks b.1 d.1 o.1)
