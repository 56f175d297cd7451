-- The subtrees of a list of nodes.
use Rattle.std.proofs.Common.{◌≡◌, ℕ, zero, suc, ◌+◌, ◌<◌, ◌≤◌, ◌≢◌, ◌⊎◌, List, [], ◌∷◌, ◌++◌, length, get_or, set, ℤ, Some, None, Option, sym, refl, ap, ◌∙◌, subst, inl, inr, arith}
use Rattle.std.proofs.lemmas.List.{length-append, length-set, get_or-set_other}
use Rattle.std.proofs.lemmas.Bool.{cases_lt}
use Rattle.std.specs.List.{slice_get}
use Rattle.std.specs.Option.{option_map, option_zip}
use Rattle.grammar.specs.Lists.{OperatorOf}
use Rattle.covers.specs.Trees.{Applied, leaf, unary, binary, Tree, node0, node1, node2, size, TreeFits}
use Rattle.covers.specs.Covers.{Apart, Distinct}
use Rattle.covers.specs.Ranks.{at}
use Rattle.covers.specs.Nodes.{Node, node, kids, all_kids, Below, Listed, Subtree, tree_over, subtrees_after, subtree}
use Rattle.covers.proofs.Relaxing.{some_is, none_some}
use Rattle.covers.proofs.Nths.{nth_below, at_more, at_front, at_last}

-- ---- the computed subtree is the subtree

pub mapped_some : {A B : Type 0} (f : A → B) (o : Option A) (y : B) → option_map f o ≡ Some y → (x : A) × (o ≡ Some x) × (f x ≡ y)
mapped_some f None y e = absurd (none_some y e)
mapped_some f (Some x) y e = (x, refl, some_is (f x) y e)

pub zipped_some : {A B : Type 0} (o : Option A) (u : Option B) (y : A × B) → option_zip o u ≡ Some y → (o ≡ Some y.0) × (u ≡ Some y.1)
zipped_some None u y e = absurd (none_some y e)
zipped_some (Some x) None y e = absurd (none_some y e)
zipped_some {A} {B} (Some x) (Some z) y e = (let s = some_is (x, z) y e in (ap {B = Option A} (λ w. Some w.0) s, ap {B = Option B} (λ w. Some w.1) s))

abbrev pub Held : List Node → List (Option Tree) → Type 0
Held all ts = (i : ℕ) (t : Tree) → at ts i ≡ Some t → Subtree all i t

pub tree_over_is : (all : List Node) (ts : List (Option Tree)) → Held all ts → (a : Applied ℕ) (p : ℤ) (i : ℕ) (t : Tree) → slice_get all i ≡ Some (node a p) → tree_over ts a p ≡ Some t → Subtree all i t
tree_over_is all ts h (leaf op) p i t n e = subst (Subtree all i) (some_is (node0 op p) t e) n
tree_over_is all ts h (unary op a) p i t n e = (let k = mapped_some (node1 op p) (at ts a) t e in subst (Subtree all i) k.2 (a, n, h a k.0 k.1))
tree_over_is all ts h (binary op a b) p i t n e =
    let k = mapped_some (λ z. node2 op p z.0 z.1) (option_zip (at ts a) (at ts b)) t e in
    let z = zipped_some (at ts a) (at ts b) k.0 k.1 in
    subst (Subtree all i) k.2 (a, b, n, h a k.0.0 z.0, h b k.0.1 z.1)

held_more : (all : List Node) (ts : List (Option Tree)) → Held all ts → (x : Node) → slice_get all (length ts) ≡ Some x → Held all (ts ++ tree_over ts x.top x.payload ∷ [])
held_more all ts h x n i t e = elim (at_more ts (tree_over ts x.top x.payload) i t e) [
  | inl k ↦ h i t k
  | inr k ↦ subst (λ z. Subtree all z t) (sym k.0) (tree_over_is all ts h x.top x.payload (length ts) t n k.1)
]

pub length_more : {A : Type 0} (xs : List A) (x : A) → length (xs ++ x ∷ []) ≡ length xs + 1
length_more xs x = length-append xs (x ∷ [])

held_all : (all : List Node) (ns : List Node) (ts : List (Option Tree)) → Held all ts → ((j : ℕ) (x : Node) → slice_get ns j ≡ Some x → slice_get all (length ts + j) ≡ Some x) → Held all (subtrees_after ts ns)
held_all all [] ts h f = h
held_all all (x ∷ ns) ts h f =
    let o = tree_over ts x.top x.payload in
    let here : length ts + 0 ≡ length ts = omega arith in
    held_all all ns (ts ++ o ∷ []) (held_more all ts h x (subst (λ z. slice_get all z ≡ Some x) here (f 0 x refl))) (λ j y e. (let s = length_more ts o in let place : length ts + suc j ≡ length (ts ++ o ∷ []) + j = omega arith in subst (λ z. slice_get all z ≡ Some y) place (f (suc j) y e)))

pub subtree_is : (ns : List Node) (i : ℕ) (t : Tree) → subtree ns i ≡ Some t → Subtree ns i t
subtree_is ns = held_all ns ns [] (λ i t e. absurd (none_some t e)) (λ j x e. (let place : j ≡ 0 + j = omega arith in subst (λ z. slice_get ns z ≡ Some x) place e))

-- ---- there is one

top_is : (ns : List Node) (i : ℕ) (a b : Applied ℕ) (p q : ℤ) → slice_get ns i ≡ Some (node a p) → slice_get ns i ≡ Some (node b q) → (a ≡ b) × (p ≡ q)
top_is ns i a b p q e f = (let s = some_is (node a p) (node b q) (sym e ∙ f) in (ap (λ z. z.top) s, ap (λ z. z.payload) s))

clash : {A : Type 0} → ◌≡◌ {A = ℕ} 0 1 → A
clash e = absurd (omega arith)

pub subtree_one : (ns : List Node) (t u : Tree) (i : ℕ) → Subtree ns i t → Subtree ns i u → t ≡ u
subtree_one ns (node0 op p) (node0 o q) i h k =
    let s = top_is ns i (leaf op) (leaf o) p q h k in
    let w = s.0 in
    let e : op ≡ o = cc in
    λ j. node0 (e j) (s.1 j)
subtree_one ns (node0 op p) (node1 o q u) i h k = clash (let w = (top_is ns i (leaf op) (unary o k.0) p q h k.1).0 in cc)
subtree_one ns (node0 op p) (node2 o q u v) i h k = clash (let w = (top_is ns i (leaf op) (binary o k.0 k.1) p q h k.2).0 in cc)
subtree_one ns (node1 op p t) (node0 o q) i h k = clash (let w = (top_is ns i (unary op h.0) (leaf o) p q h.1 k).0 in cc)
subtree_one ns (node1 op p t) (node1 o q u) i h k =
    let s = top_is ns i (unary op h.0) (unary o k.0) p q h.1 k.1 in
    let w = s.0 in
    let e : op ≡ o = cc in
    let f : h.0 ≡ k.0 = cc in
    let r = subtree_one ns t u k.0 (subst (λ z. Subtree ns z t) f h.2) k.2 in
    λ j. node1 (e j) (s.1 j) (r j)
subtree_one ns (node1 op p t) (node2 o q u v) i h k = clash (let w = (top_is ns i (unary op h.0) (binary o k.0 k.1) p q h.1 k.2).0 in cc)
subtree_one ns (node2 op p t t') (node0 o q) i h k = clash (let w = (top_is ns i (binary op h.0 h.1) (leaf o) p q h.2 k).0 in cc)
subtree_one ns (node2 op p t t') (node1 o q u) i h k = clash (let w = (top_is ns i (binary op h.0 h.1) (unary o k.0) p q h.2 k.1).0 in cc)
subtree_one ns (node2 op p t t') (node2 o q u u') i h k =
    let s = top_is ns i (binary op h.0 h.1) (binary o k.0 k.1) p q h.2 k.2 in
    let w = s.0 in
    let e : op ≡ o = cc in
    let f : h.0 ≡ k.0 = cc in
    let g : h.1 ≡ k.1 = cc in
    let r = subtree_one ns t u k.0 (subst (λ z. Subtree ns z t) f h.3) k.3 in
    let r' = subtree_one ns t' u' k.1 (subst (λ z. Subtree ns z t') g h.4) k.4 in
    λ j. node2 (e j) (s.1 j) (r j) (r' j)

-- ---- every node has one

abbrev pub Each : List (Option Tree) → Type 0
Each ts = (i : ℕ) → i < length ts → (t : Tree) × (at ts i ≡ Some t)

pub tree_over_some : (ts : List (Option Tree)) → Each ts → (a : Applied ℕ) (p : ℤ) → Below (length ts) (kids a) → (t : Tree) × (tree_over ts a p ≡ Some t)
tree_over_some ts h (leaf op) p b = (node0 op p, refl)
tree_over_some ts h (unary op a) p b = (let k = h a b.0 in (node1 op p k.0, ap (option_map (node1 op p)) k.1))
tree_over_some ts h (binary op a c) p b =
    let k = h a b.0 in
    let j = h c b.1.0 in
    (node2 op p k.0 j.0, (λ i. option_map (λ z. node2 op p z.0 z.1) (option_zip (k.1 i) (j.1 i))))

each_more : (ts : List (Option Tree)) (o : Option Tree) → Each ts → (t : Tree) → o ≡ Some t → Each (ts ++ o ∷ [])
each_more ts o h t e i s =
    let w = length_more ts o in
    elim (cases_lt i (length ts)) [
      | inl k ↦ (let x = h i k in (x.0, at_front ts (o ∷ []) i x.0 x.1))
      | inr k ↦ (let last : i ≡ length ts = omega arith in (t, ap (at (ts ++ o ∷ [])) last ∙ at_last ts o ∙ e))
    ]

each_all : (ns : List Node) (ts : List (Option Tree)) → Each ts → ((j : ℕ) (x : Node) → slice_get ns j ≡ Some x → Below (length ts + j) (kids x.top)) → Each (subtrees_after ts ns)
each_all [] ts h f = h
each_all (x ∷ ns) ts h f =
    let o = tree_over ts x.top x.payload in
    let here : length ts + 0 ≡ length ts = omega arith in
    let k = tree_over_some ts h x.top x.payload (subst (λ z. Below z (kids x.top)) here (f 0 x refl)) in
    each_all ns (ts ++ o ∷ []) (each_more ts o h k.0 k.1) (λ j y e. (let s = length_more ts o in let place : length ts + suc j ≡ length (ts ++ o ∷ []) + j = omega arith in subst (λ z. Below z (kids y.top)) place (f (suc j) y e)))

pub subtrees_length : (ns : List Node) (ts : List (Option Tree)) → length (subtrees_after ts ns) ≡ length ts + length ns
subtrees_length [] ts = (let e : length ts ≡ length ts + 0 = omega arith in e)
subtrees_length (x ∷ ns) ts = (let o = tree_over ts x.top x.payload in let h = subtrees_length ns (ts ++ o ∷ []) in let k = length_more ts o in omega arith)

pub subtree_each : (ops : List OperatorOf) (ns : List Node) → Listed ops ns → (i : ℕ) → i < length ns → (t : Tree) × (subtree ns i ≡ Some t)
subtree_each ops ns l i h = each_all ns [] (λ j s. absurd (omega arith)) (λ j x e. (let place : j ≡ 0 + j = omega arith in subst (λ z. Below z (kids x.top)) place (l.below j x e))) i (omega (arith, subtrees_length ns []))

-- ---- its nodes fit their operators

pub subtree_fits : (ops : List OperatorOf) (ns : List Node) → Listed ops ns → (t : Tree) (i : ℕ) → Subtree ns i t → TreeFits ops t
subtree_fits ops ns l (node0 op p) i h = l.fits i (node (leaf op) p) h
subtree_fits ops ns l (node1 op p t) i h = (l.fits i (node (unary op h.0) p) h.1, subtree_fits ops ns l t h.0 h.2)
subtree_fits ops ns l (node2 op p t u) i h = (l.fits i (node (binary op h.0 h.1) p) h.2, subtree_fits ops ns l t h.0 h.3, subtree_fits ops ns l u h.1 h.4)

-- ---- more nodes leave it

pub subtrees_split : (ns more : List Node) (ts : List (Option Tree)) → subtrees_after ts (ns ++ more) ≡ subtrees_after (subtrees_after ts ns) more
subtrees_split [] more ts = refl
subtrees_split (x ∷ ns) more ts = subtrees_split ns more (ts ++ tree_over ts x.top x.payload ∷ [])

subtrees_keep : (more : List Node) (ts : List (Option Tree)) (i : ℕ) (t : Tree) → at ts i ≡ Some t → at (subtrees_after ts more) i ≡ Some t
subtrees_keep [] ts i t e = e
subtrees_keep (x ∷ more) ts i t e = (let o = tree_over ts x.top x.payload in subtrees_keep more (ts ++ o ∷ []) i t (at_front ts (o ∷ []) i t e))

pub subtree_stays : (ns more : List Node) (i : ℕ) (t : Tree) → subtree ns i ≡ Some t → subtree (ns ++ more) i ≡ Some t
subtree_stays ns more i t e = ap (λ z. at z i) (subtrees_split ns more []) ∙ subtrees_keep more (subtrees_after [] ns) i t e

-- ---- it has no more nodes than the list

abbrev size_of : Option Tree → ℕ
size_of None = 0
size_of (Some t) = size t

abbrev adds : List ℕ → ℕ
adds [] = 0
adds (w ∷ ws) = w + adds ws

adds_set : (ws : List ℕ) (a : ℕ) → adds (set ws a 0) + get_or ws a 0 ≡ adds ws
adds_set [] a = refl
adds_set (w ∷ ws) zero = omega arith
adds_set (w ∷ ws) (suc a) = (let h = adds_set ws a in omega arith)

adds_more : (ws : List ℕ) (v : ℕ) → adds (ws ++ v ∷ []) ≡ adds ws + v
adds_more [] v = omega arith
adds_more (w ∷ ws) v = (let h = adds_more ws v in omega arith)

-- a is one of the numbers
abbrev Among : ℕ → List ℕ → Type 0
Among a [] = ⊥
Among a (x ∷ xs) = (a ≡ x) ⊎ Among a xs

among_back : (a : ℕ) (xs ys : List ℕ) → Among a ys → Among a (xs ++ ys)
among_back a [] ys h = h
among_back a (x ∷ xs) ys h = inr (among_back a xs ys h)

apart_among : (a b : ℕ) (xs : List ℕ) → Apart a xs → Among b xs → b ≢ a
apart_among a b [] h k = absurd k
apart_among a b (x ∷ xs) h (inl k) = λ e. h.0 (sym e ∙ k)
apart_among a b (x ∷ xs) h (inr k) = apart_among a b xs h.1 k

distinct_back : (xs ys : List ℕ) → Distinct (xs ++ ys) → Distinct ys
distinct_back [] ys h = h
distinct_back (x ∷ xs) ys h = distinct_back xs ys h.1

-- each tree that is no kid yet has its size in ws, and these add up to no more than there are nodes
record Sizes (ts : List (Option Tree)) (ws rest : List ℕ) : Type 0 where
  pub long : length ws ≡ length ts
  pub small : adds ws ≤ length ts
  pub free : (a : ℕ) → Among a rest → size_of (at ts a) ≤ get_or ws a 0
  pub bound : (a : ℕ) → size_of (at ts a) ≤ length ts

size_more : (ts : List (Option Tree)) (ws : List ℕ) (o : Option Tree) (a : ℕ) → length ws ≡ length ts → size_of (at ts a) ≤ get_or ws a 0 → size_of (at (ts ++ o ∷ []) a) ≤ get_or (ws ++ size_of o ∷ []) a 0
size_more [] [] o zero e h = omega arith
size_more [] [] o (suc a) e h = omega arith
size_more [] (w ∷ ws) o a e h = absurd (omega arith)
size_more (x ∷ ts) [] o a e h = absurd (omega arith)
size_more (x ∷ ts) (w ∷ ws) o zero e h = h
size_more (x ∷ ts) (w ∷ ws) o (suc a) e h = size_more ts ws o a (omega arith) h

bound_more : (ts : List (Option Tree)) (o : Option Tree) (k a : ℕ) → size_of (at ts a) ≤ k → size_of o ≤ k → size_of (at (ts ++ o ∷ []) a) ≤ k
bound_more [] o k zero h g = g
bound_more [] o k (suc a) h g = omega arith
bound_more (x ∷ ts) o k zero h g = h
bound_more (x ∷ ts) o k (suc a) h g = bound_more ts o k a h g

sizes_more : (ts : List (Option Tree)) (ws rest : List ℕ) (o : Option Tree) → length ws ≡ length ts → adds ws + size_of o ≤ length ts + 1 → ((a : ℕ) → Among a rest → size_of (at ts a) ≤ get_or ws a 0) → ((a : ℕ) → size_of (at ts a) ≤ length ts) → Sizes (ts ++ o ∷ []) (ws ++ size_of o ∷ []) rest
sizes_more ts ws rest o e s f b =
    let lt = length_more ts o in
    let lw = length_more ws (size_of o) in
    record {
      long = omega arith;
      small = omega (arith, adds_more ws (size_of o));
      free = λ a k. size_more ts ws o a e (f a k);
      bound = λ a. bound_more ts o (length (ts ++ o ∷ [])) a (let h = b a in omega arith) (omega arith);
    }

size_one : (op : ℕ) (p : ℤ) (o : Option Tree) → size_of (option_map (node1 op p) o) ≤ 1 + size_of o
size_one op p None = omega arith
size_one op p (Some t) = omega arith

size_two : (op : ℕ) (p : ℤ) (o u : Option Tree) → size_of (option_map (λ z. node2 op p z.0 z.1) (option_zip o u)) ≤ 1 + size_of o + size_of u
size_two op p None u = omega arith
size_two op p (Some t) None = omega arith
size_two op p (Some t) (Some s) = omega arith

sizes_next : (ts : List (Option Tree)) (ws rest : List ℕ) (x : Applied ℕ) (p : ℤ) → Sizes ts ws (kids x ++ rest) → Distinct (kids x ++ rest) → (ws' : List ℕ) × Sizes (ts ++ tree_over ts x p ∷ []) ws' rest
sizes_next ts ws rest (leaf op) p s d = (ws ++ 1 ∷ [], sizes_more ts ws rest (Some (node0 op p)) s.long (let h = s.small in omega arith) s.free s.bound)
sizes_next ts ws rest (unary op a) p s d =
    let o = option_map (node1 op p) (at ts a) in
    let ws' = set ws a 0 in
    let less = adds_set ws a in
    let here = s.free a (inl refl) in
    let one = size_one op p (at ts a) in
    let all = s.small in
    (ws' ++ size_of o ∷ [], sizes_more ts ws' rest o (length-set ws a 0 ∙ s.long) (omega arith) (λ b k. (let h = s.free b (inr k) in let e = get_or-set_other ws a b 0 0 (apart_among a b rest d.0 k) in omega arith)) s.bound)
sizes_next ts ws rest (binary op a c) p s d =
    let o = option_map (λ z. node2 op p z.0 z.1) (option_zip (at ts a) (at ts c)) in
    let ws₁ = set ws a 0 in
    let ws' = set ws₁ c 0 in
    let less = adds_set ws a in
    let less₁ = adds_set ws₁ c in
    let here = s.free a (inl refl) in
    let there = s.free c (inr (inl refl)) in
    let apart : get_or ws₁ c 0 ≡ get_or ws c 0 = get_or-set_other ws a c 0 0 (λ e. d.0.0 (sym e)) in
    let two = size_two op p (at ts a) (at ts c) in
    let all = s.small in
    (ws' ++ size_of o ∷ [], sizes_more ts ws' rest o (length-set ws₁ c 0 ∙ length-set ws a 0 ∙ s.long) (omega arith) (λ b k. (let h = s.free b (inr (inr k)) in let e = get_or-set_other ws a b 0 0 (apart_among a b rest d.0.1 k) in let f = get_or-set_other ws₁ c b 0 0 (apart_among c b rest d.1.0 k) in omega arith)) s.bound)

sizes_all : (ns : List Node) (ts : List (Option Tree)) (ws : List ℕ) → Sizes ts ws (all_kids ns) → Distinct (all_kids ns) → (ws' : List ℕ) × Sizes (subtrees_after ts ns) ws' []
sizes_all [] ts ws s d = (ws, s)
sizes_all (x ∷ ns) ts ws s d = (let k = sizes_next ts ws (all_kids ns) x.top x.payload s d in sizes_all ns (ts ++ tree_over ts x.top x.payload ∷ []) k.0 k.1 (distinct_back (kids x.top) (all_kids ns) d))

pub subtree_small : (ops : List OperatorOf) (ns : List Node) → Listed ops ns → (i : ℕ) (t : Tree) → subtree ns i ≡ Some t → size t ≤ length ns
subtree_small ops ns l i t e =
    let s = sizes_all ns [] [] (record { long = refl; small = omega arith; free = λ a k. omega arith; bound = λ a. omega arith }) l.once in
    let b = s.1.bound i in
    let k : size_of (subtree ns i) ≡ size t = ap size_of e in
    omega (arith, subtrees_length ns [])

subtree_below : (ns : List Node) (t : Tree) (i : ℕ) → Subtree ns i t → i < length ns
subtree_below ns (node0 op p) i h = nth_below ns i (node (leaf op) p) h
subtree_below ns (node1 op p t) i h = nth_below ns i (node (unary op h.0) p) h.1
subtree_below ns (node2 op p t u) i h = nth_below ns i (node (binary op h.0 h.1) p) h.2

pub is_subtree : (ops : List OperatorOf) (ns : List Node) → Listed ops ns → (i : ℕ) (t : Tree) → Subtree ns i t → subtree ns i ≡ Some t
is_subtree ops ns l i t h =
    let k = subtree_each ops ns l i (subtree_below ns t i h) in
    k.1 ∙ ap {B = Option Tree} Some (subtree_one ns k.0 t i (subtree_is ns i k.0 k.1) h)
