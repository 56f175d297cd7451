-- What a push leaves.
use Rattle.std.proofs.Common.{◌≡◌, ℕ, ◌+◌, ◌<◌, ◌≤◌, Bool, true, false, cond, ◌||◌, eqb, ltb, ◌≢◌, List, [], ◌∷◌, ◌++◌, map, length, get_or, take, set, Some, None, Option, sym, refl, ap, ◌∙◌, subst, ⊎_elim, arith}
use Rattle.std.proofs.lemmas.List.{get_or-set_same, get_or-set_other, length-set, length-map, length-take-le, take-map, take_more_set, map_push}
use Rattle.std.proofs.lemmas.Bool.{cases_lt, and_from, lt-ltb, both_ways}
use Rattle.covers.specs.Nodes.{Node, kids, all_kids, Below}
use Rattle.nodes.specs.declared.Label.{Label}
use Rattle.nodes.specs.declared.Node.{Node as CodeNode}
use Rattle.nodes.specs.declared.NodePlace.{NodePlace}
use Rattle.nodes.specs.declared.NodeNumber.{NodeNumber}
use Rattle.nodes.specs.declared.Nodes.{Nodes}
use Rattle.nodes.specs.Checks.{among, all_below, pushes}
use Rattle.nodes.specs.Places.{nodes_in, labels_in, MarksKids, placed, Stored}
use Rattle.nodes.specs.Meaning.{places_of, most_of, nodes_of, labels_of, Pushed}
use Rattle.nodes.specs.Views.{kid_list, node_of, label_of, number_of}
use Rattle.nodes.proofs.Among.{apart_among, below_apart, below_join, below_raised, all_below_is, below_all, all_kids_more}

or_assoc : (a b c : Bool) → ((a || b) || c) ≡ (a || (b || c))
or_assoc true b c = refl
or_assoc false b c = refl

among_join : (k : ℕ) (xs ys : List ℕ) → among k (xs ++ ys) ≡ (among k xs || among k ys)
among_join k [] ys = refl
among_join k (x ∷ xs) ys = ap (λ z. eqb k x || z) (among_join k xs ys) ∙ sym (or_assoc (eqb k x) (among k xs) (among k ys))

-- the front of a list with one more, seen through f
front_push : {A B : Type 0} (f : A → B) (n : ℕ) (xs ys : List A) (p : A)
    → n < length xs → map f ys ≡ map f (set xs n p) → map f (take (n + 1) ys) ≡ map f (take n xs) ++ f p ∷ []
front_push f n xs ys p l q =
    sym (take-map f (n + 1) ys) ∙ ap (take (n + 1)) q ∙ take-map f (n + 1) (set xs n p)
    ∙ ap (map f) (take_more_set xs n p l) ∙ map_push f (take n xs) p

module _ (xs ys : List NodePlace) (n : ℕ) (x : CodeNode) (l : Option Label) (r : n < length xs) (s : Stored xs n x l ys) where
  abbrev ks : List ℕ
  ks = kid_list x.top

  pub nodes_push : nodes_in (n + 1) ys ≡ nodes_in n xs ++ node_of x ∷ []
  nodes_push = front_push (λ (p : NodePlace). node_of p.node) n xs ys (placed x l) r s.nodes

  pub labels_push : labels_in (n + 1) ys ≡ labels_in n xs ++ label_of l ∷ []
  labels_push = front_push (λ (p : NodePlace). label_of p.label) n xs ys (placed x l) r s.labels

  all_are : all_kids (nodes_in (n + 1) ys) ≡ all_kids (nodes_in n xs) ++ ks
  all_are = ap all_kids nodes_push ∙ all_kids_more (nodes_in n xs) (node_of x)

  pub below_push : all_below n (all_kids (nodes_in n xs)) ≡ true → all_below n ks ≡ true → all_below (n + 1) (all_kids (nodes_in (n + 1) ys)) ≡ true
  below_push h b =
      let all = all_kids (nodes_in n xs) in
      let joined : Below n (all ++ ks) = below_join n all ks (all_below_is n all h) (all_below_is n ks b) in
      below_all (n + 1) (all_kids (nodes_in (n + 1) ys)) (subst (Below (n + 1)) (sym all_are) (below_raised n (n + 1) (all ++ ks) (omega arith) joined))

  pub marks_push : MarksKids n xs → all_below n (all_kids (nodes_in n xs)) ≡ true → MarksKids (n + 1) ys
  marks_push h b d i k =
      let all = all_kids (nodes_in n xs) in
      let zs = set xs n (placed x l) in
      let long : length zs ≡ length xs = length-set xs n (placed x l) in
      s.marks d i (omega arith)
      ∙ ⊎_elim
      (λ (q : i < n).
      let ne : i ≢ n = λ e. omega arith in
      ap (λ (p : NodePlace). p.is_kid || among i ks) (get_or-set_other xs n i (placed x l) d ne)
      ∙ ap (λ z. z || among i ks) (h d i q))
      (λ (q : n ≤ i).
      let e : i ≡ n = omega arith in
      ap (λ z. (get_or zs z d).is_kid || among i ks) e
      ∙ ap (λ (p : NodePlace). p.is_kid || among i ks) (get_or-set_same xs n (placed x l) d r)
      ∙ ap (λ z. z || among i ks) (sym (apart_among i all (below_apart n i all q (all_below_is n all b)))))
      (cases_lt i n)
      ∙ sym (among_join i all ks) ∙ ap (among i) (sym all_are)

-- how many nodes and labels a list has: no more nodes than it may have, and as many labels
pub nodes_count : (v : Nodes) → length (nodes_of v) ≡ v.len
nodes_count v =
    let f = v.fits in
    let g = v.few in
    length-map (take v.len (places_of v)) (λ (p : NodePlace). node_of p.node) ∙ length-take-le v.len (places_of v) (omega arith)

pub nodes_few : (v : Nodes) → length (nodes_of v) ≤ most_of v
nodes_few v = (let few = v.few in let n = nodes_count v in omega arith)

pub labels_count : (v : Nodes) → length (labels_of v) ≡ length (nodes_of v)
labels_count v =
    length-map (take v.len (places_of v)) (λ (p : NodePlace). label_of p.label) ∙ sym (length-map (take v.len (places_of v)) (λ (p : NodePlace). node_of p.node))

-- a push that appends
pub pushed_new : (v u : Nodes) (x : CodeNode) (l : Option Label) (r : Option NodeNumber)
    → v.len < most_of v → all_below v.len (kid_list x.top) ≡ true → Stored (places_of v) v.len x l (places_of u) → u.len ≡ v.len + 1
    → number_of r ≡ Some v.len → Pushed v (node_of x) (label_of l) r u
pushed_new v u x l r room b s len a =
    let f = v.fits in
    let n = nodes_count v in
    let t : pushes (most_of v) (nodes_of v) (node_of x) ≡ true =
    and_from (ltb (length (nodes_of v)) (most_of v)) (all_below (length (nodes_of v)) (kid_list x.top))
    (lt-ltb (length (nodes_of v)) (most_of v) (omega arith))
    (ap (λ z. all_below z (kid_list x.top)) n ∙ b) in
    record {
      answer = a ∙ ap {B = Option ℕ} Some (sym n) ∙ ap (λ z. cond z (Some (length (nodes_of v))) None) (sym t);
      nodes = ap (λ z. nodes_in z (places_of u)) len ∙ nodes_push (places_of v) (places_of u) v.len x l (omega arith) s ∙ ap (λ z. cond z (nodes_of v ++ node_of x ∷ []) (nodes_of v)) (sym t);
      labels = ap (λ z. labels_in z (places_of u)) len ∙ labels_push (places_of v) (places_of u) v.len x l (omega arith) s ∙ ap (λ z. cond z (labels_of v ++ label_of l ∷ []) (labels_of v)) (sym t);
      unchanged = λ e. absurd (both_ways (pushes (most_of v) (nodes_of v) (node_of x)) e t);
    }

-- what a push that appends does
pub record Appended (v : Nodes) (x : Node) (l : Option ℕ) (r : Option NodeNumber) (u : Nodes) : Type 0 where
  pub answer : number_of r ≡ Some (length (nodes_of v))
  pub nodes : nodes_of u ≡ nodes_of v ++ x ∷ []
  pub labels : labels_of u ≡ labels_of v ++ l ∷ []

-- A push appends, for a proof above: the list has room, and each kid's number is below the new node's.
pub pushed_more : (v u : Nodes) (x : Node) (l : Option ℕ) (r : Option NodeNumber)
    → length (nodes_of v) < most_of v → Below (length (nodes_of v)) (kids x.top) → Pushed v x l r u → Appended v x l r u
pushed_more v u x l r h b p =
    let n = length (nodes_of v) in
    let e : pushes (most_of v) (nodes_of v) x ≡ true =
    and_from (ltb n (most_of v)) (all_below n (kids x.top)) (lt-ltb n (most_of v) h) (below_all n (kids x.top) b) in
    record {
      answer = p.answer ∙ ap (λ z. cond z (Some n) None) e;
      nodes = p.nodes ∙ ap (λ z. cond z (nodes_of v ++ x ∷ []) (nodes_of v)) e;
      labels = p.labels ∙ ap (λ z. cond z (labels_of v ++ l ∷ []) (labels_of v)) e;
    }
