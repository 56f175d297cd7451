-- How the open tree and the accepted nodes grow by one node.
use Rattle.std.proofs.Common.{◌≡◌, ℕ, zero, suc, ◌+◌, ◌≤◌, List, [], ◌∷◌, ◌++◌, map, length, ℤ, Some, None, Option, sym, refl, ap, ◌∙◌, subst, inl, inr, arith}
use Rattle.std.specs.List.{slice_get}
use Rattle.std.specs.Option.{option_map, option_zip}
use Rattle.std.proofs.lemmas.List.{length-append, map-append}
use Rattle.cost.specs.Model.{Model, Laws}
use Rattle.grammar.specs.Lists.{OperatorOf, Lists}
use Rattle.covers.specs.Trees.{Applied, leaf, unary, binary, Tree, node0, node1, node2, size}
use Rattle.covers.specs.Ranks.{at}
use Rattle.covers.specs.Nodes.{Node, Listed, tree_over, subtrees_after}
use Rattle.covers.specs.Held.{In, kid_trees, label, key}
use Rattle.covers.proofs.Relaxing.{some_is, none_some}
use Rattle.covers.proofs.Nths.{nth_front, nth_back, at_more, at_last}
use Rattle.covers.proofs.Shifts.{at_map}
use Rattle.covers.proofs.NodeTrees.{mapped_some, zipped_some, subtrees_split, subtrees_length, subtree_each, subtree_small}
use Rattle.covers.proofs.Labels.{label_stays}
use Rattle.automaton.specs.Histories.{or_0, key_by}

-- the subtrees of the nodes of a list
abbrev trees_of : List Node → List (Option Tree)
trees_of ns = subtrees_after [] ns

pub trees_more : (ns : List Node) (x : Node) → trees_of (ns ++ x ∷ []) ≡ trees_of ns ++ tree_over (trees_of ns) x.top x.payload ∷ []
trees_more ns x = subtrees_split ns (x ∷ []) []

pub trees_long : (ns : List Node) → length (trees_of ns) ≡ length ns
trees_long ns = (let e = subtrees_length ns [] in omega arith)

-- a listed node has a subtree, with no more nodes than the list
pub new_tree_some : (ops : List OperatorOf) (ns : List Node) (x : Node) → Listed ops (ns ++ x ∷ []) → (t : Tree) × (tree_over (trees_of ns) x.top x.payload ≡ Some t) × (size t ≤ length ns + 1)
new_tree_some ops ns x l =
    let long : length (ns ++ x ∷ []) ≡ length ns + 1 = length-append ns (x ∷ []) in
    let h = subtree_each ops (ns ++ x ∷ []) l (length ns) (omega arith) in
    let here : at (trees_of (ns ++ x ∷ [])) (length ns) ≡ tree_over (trees_of ns) x.top x.payload =
    ap (λ z. at z (length ns)) (trees_more ns x) ∙ ap (at (trees_of ns ++ tree_over (trees_of ns) x.top x.payload ∷ [])) (sym (trees_long ns)) ∙ at_last (trees_of ns) (tree_over (trees_of ns) x.top x.payload) in
    let small = subtree_small ops (ns ++ x ∷ []) l (length ns) h.0 h.1 in
    (h.0, sym here ∙ h.1, omega arith)

-- its kids' subtrees are among those before it
pub kid_stands : (os : List (Option Tree)) (a : Applied ℕ) (p : ℤ) (t : Tree) → tree_over os a p ≡ Some t → (u : Tree) → In u (kid_trees t) → (i : ℕ) × (at os i ≡ Some u)
kid_stands os (leaf op) p t e u h = absurd (none_some u (subst (λ z. slice_get (kid_trees z) h.0 ≡ Some u) (sym (some_is (node0 op p) t e)) h.1))
kid_stands os (unary op a) p t e u h =
    let k = mapped_some (node1 op p) (at os a) t e in
    by k.0 k.1 h.0 (subst (λ z. slice_get (kid_trees z) h.0 ≡ Some u) (sym k.2) h.1)
  where
    by : (v : Tree) → at os a ≡ Some v → (i : ℕ) → slice_get (v ∷ []) i ≡ Some u → (i : ℕ) × (at os i ≡ Some u)
    by v q zero r = (a, q ∙ r)
    by v q (suc i) r = absurd (none_some u r)
kid_stands os (binary op a b) p t e u h =
    let k = mapped_some (λ z. node2 op p z.0 z.1) (option_zip (at os a) (at os b)) t e in
    let z = zipped_some (at os a) (at os b) k.0 k.1 in
    by k.0.0 k.0.1 z.0 z.1 h.0 (subst (λ z. slice_get (kid_trees z) h.0 ≡ Some u) (sym k.2) h.1)
  where
    by : (v w : Tree) → at os a ≡ Some v → at os b ≡ Some w → (i : ℕ) → slice_get (v ∷ w ∷ []) i ≡ Some u → (i : ℕ) × (at os i ≡ Some u)
    by v w q r zero s = (a, q ∙ s)
    by v w q r (suc zero) s = (b, r ∙ s)
    by v w q r (suc (suc i)) s = absurd (none_some u s)

module _ {C : Type 0} (m : Model C) (G : Lists C) (ts : List Tree) (os : List (Option Tree)) where
  read_label : (a : ℕ) (u : Tree) → at os a ≡ Some u → or_0 (at (map (option_map (label m G ts)) os) a) ≡ label m G ts u
  read_label a u e = ap or_0 (at_map (option_map (label m G ts)) refl os a ∙ ap (option_map (label m G ts)) e)

  -- its key is read off the labels of its kids
  pub key_is : (a : Applied ℕ) (p : ℤ) (t : Tree) → tree_over os a p ≡ Some t → key_by (map (option_map (label m G ts)) os) a ≡ key m G ts t
  key_is (leaf op) p t e = ap (key m G ts) (some_is (node0 op p) t e)
  key_is (unary op a) p t e = (let k = mapped_some (node1 op p) (at os a) t e in ap (unary op) (read_label a k.0 k.1) ∙ ap (key m G ts) k.2)
  key_is (binary op a b) p t e =
      let k = mapped_some (λ z. node2 op p z.0 z.1) (option_zip (at os a) (at os b)) t e in
      let z = zipped_some (at os a) (at os b) k.0 k.1 in
      let l = read_label a k.0.0 z.0 in
      let r = read_label b k.0.1 z.1 in
      (λ i. binary op (l i) (r i)) ∙ ap (key m G ts) k.2

module _ {C : Type 0} {m : Model C} (l : Laws m) (G : Lists C) (ts : List Tree) (t : Tree) where
  -- the labels of the nodes before it stay
  pub labels_stay : (os : List (Option Tree)) → ((i : ℕ) (u : Tree) → at os i ≡ Some u → In u ts) → map (option_map (label m G (ts ++ t ∷ []))) os ≡ map (option_map (label m G ts)) os
  labels_stay [] h = refl
  labels_stay (None ∷ os) h = ap (λ z. None ∷ z) (labels_stay os (λ i u e. h (suc i) u e))
  labels_stay (Some v ∷ os) h = (let a = label_stays l G ts (t ∷ []) v (h 0 v refl) in let b = labels_stay os (λ i u e. h (suc i) u e) in λ i. Some (a i) ∷ b i)

  pub labels_more : (os : List (Option Tree)) → ((i : ℕ) (u : Tree) → at os i ≡ Some u → In u ts) → map (option_map (label m G (ts ++ t ∷ []))) (os ++ Some t ∷ []) ≡ map (option_map (label m G ts)) os ++ Some (label m G (ts ++ t ∷ []) t) ∷ []
  labels_more os h = map-append (option_map (label m G (ts ++ t ∷ []))) os (Some t ∷ []) ∙ ap (λ z. z ++ Some (label m G (ts ++ t ∷ []) t) ∷ []) (labels_stay os h)

-- the nodes of the open tree stay among the accepted ones
pub opens_more : (ts : List Tree) (t : Tree) (os : List (Option Tree)) → ((i : ℕ) (u : Tree) → at os i ≡ Some u → In u ts) → (i : ℕ) (u : Tree) → at (os ++ Some t ∷ []) i ≡ Some u → In u (ts ++ t ∷ [])
opens_more ts t os h i u e = elim (at_more os (Some t) i u e) [
  | inl k ↦ (let w = h i u k in (w.0, nth_front ts (t ∷ []) w.0 u w.1))
  | inr k ↦ (length ts, nth_back ts (t ∷ []) 0 (length ts) (omega arith) ∙ k.1)
]
