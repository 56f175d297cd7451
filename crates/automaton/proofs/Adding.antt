-- What adding a node answers, and what the automaton means then.
use Rattle.std.proofs.Common.{◌≡◌, ℕ, ◌+◌, ◌<◌, ◌≤◌, List, [], ◌∷◌, ◌++◌, map, length, Some, None, Ok, Err, Option, Result, sym, refl, ap, ◌∙◌, subst, arith}
use Rattle.std.specs.Option.{option_map}
use Rattle.cost.specs.Model.{Model, Laws}
use Rattle.grammar.specs.Lists.{Lists}
use Rattle.grammar.specs.Meaning.{grammar_lists}
use Rattle.covers.specs.Trees.{Tree, size}
use Rattle.covers.specs.Ranks.{at}
use Rattle.covers.specs.Nodes.{Node, kids, Below, Listed}
use Rattle.covers.specs.Held.{In, key, label}
use Rattle.nodes.specs.declared.NodeNumber.{NodeNumber}
use Rattle.nodes.specs.declared.NodeRefusal.{NodeRefusal}
use Rattle.nodes.specs.declared.Nodes.{Nodes}
use Rattle.nodes.specs.Checks.{check_node}
use Rattle.nodes.specs.Meaning.{Pushed, nodes_of, labels_of, most_of}
use Rattle.nodes.proofs.Pushing.{Appended, pushed_more}
use Rattle.nodes.proofs.Right.{checked_room, checked_below, checked_listed}
use Rattle.label.specs.Meaning.{by_room}
use Rattle.label.specs.declared.refusals.AddRefusal.{AddRefusal}
use Rattle.label.specs.declared.refusals.AddRefusal.TheVariants.{Node as Unfit, Room}
use Rattle.label.specs.declared.refusals.NoRoom.{NoRoom}
use Rattle.states.specs.declared.states.States.{States}
use Rattle.states.specs.Meaning.{Knows, GivesBy, Gives, SameTables}
use Rattle.states.specs.Room.{lack, Next}
use Rattle.automaton.specs.declared.Automaton.{Automaton}
use Rattle.automaton.specs.Histories.{History, added, refused, open_nodes, open_trees, new_tree, as_list, accepted, open_labels, key_by, lack_of, room_after}
use Rattle.automaton.specs.Meaning.{grammar_of, most_nodes, most_keys, most_rows, Lived, label_then, answer_by, refusal_after, AddsTo}
use Rattle.automaton.proofs.Living.{trees_more, new_tree_some, kid_stands, key_is, labels_more, opens_more}

-- a refused node leaves all as it was
lived_refused : {C : Type 0} {cost eq keyed : _} (m : Model C) (a : Automaton C cost eq keyed) (h : History) (x : Node) → Lived m a h → Lived m a (refused x ∷ h)
lived_refused m a h x l = record { few = l.few; nodes = l.nodes; labels = l.labels; listed = l.listed; opens = l.opens; knows = l.knows }

not_both : (e : AddRefusal) (p : ℕ × Option ℕ) → ◌≡◌ {A = Result (ℕ × Option ℕ) AddRefusal} (Err e) (Ok p) → ⊥
not_both e p w = (let z : ◌≡◌ {A = ℕ} 0 1 = cc in omega arith)

second_of : (p q : ℕ × Option ℕ) → ◌≡◌ {A = Result (ℕ × Option ℕ) AddRefusal} (Ok p) (Ok q) → p.1 ≡ q.1
second_of p q w = (let s : p ≡ q = cc in ap (λ z. z.1) s)

module _ {C : Type 0} {cost eq keyed : _} {m : Model C} (laws : Laws m) (a : Automaton C cost eq keyed) (h : History) (lived : Lived m a h) (x : Node) where
  abbrev G : Lists C
  G = grammar_of a

  abbrev ns : List Node
  ns = open_nodes h

  abbrev ts : List Tree
  ts = accepted h

  abbrev checked : Option NodeRefusal
  checked = check_node (grammar_of a).operators (most_nodes a) (open_nodes h) x

  -- the checks refuse it
  pub adds_unfit : (f : NodeRefusal) → checked ≡ Some f → (r : Result (ℕ × Option ℕ) AddRefusal) → r ≡ Err (Unfit f) → AddsTo m a h x r a
  adds_unfit f e r q =
      subst (λ z. AddsTo m a h x z a) (sym q)
      (record {
        answer = sym (ap (λ o. answer_by (by_room o (room_after m G (most_keys a) (most_rows a) h x)) m G h x) e);
        lived = lived_refused m a h x lived;
        labels = λ p w. absurd (not_both (Unfit f) p w);
        unchanged = λ _ _. record { grammar = refl; nodes = refl; states = record { transitions = refl; rows = refl; most_keys = refl; most_rows = refl } };
      })

  -- they do not
  module _ (passed : checked ≡ None) where
    abbrev os : List (Option Tree)
    os = open_trees h

    room_left : length (open_nodes h) < most_nodes a
    room_left = checked_room G.operators (most_nodes a) ns x passed

    more_listed : Listed G.operators (open_nodes h ++ x ∷ [])
    more_listed = checked_listed G.operators (most_nodes a) ns x lived.listed passed

    pub tree_of : (t : Tree) × (new_tree h x ≡ Some t) × (size t ≤ length (open_nodes h) + 1)
    tree_of = new_tree_some G.operators ns x more_listed

    abbrev t : Tree
    t = tree_of.0

    is_tree : new_tree h x ≡ Some tree_of.0
    is_tree = tree_of.1

    pub next : Next (accepted h) tree_of.0
    next = record {
      small = (let s = tree_of.2 in let r = room_left in let f = lived.few in omega arith);
      before = λ u k. (let w = kid_stands (open_trees h) x.top x.payload tree_of.0 is_tree u k in lived.opens w.0 u w.1);
    }

    pub key_here : key_by (open_labels m G h) x.top ≡ key m G (accepted h) tree_of.0
    key_here = key_is m G (accepted h) (open_trees h) x.top x.payload tree_of.0 is_tree

    refusal_is : refusal_after m a h x ≡ by_room None (lack m G (most_keys a) (most_rows a) (accepted h) tree_of.0)
    refusal_is = (λ i. by_room (passed i) (lack_of m G (most_keys a) (most_rows a) (accepted h) (is_tree i)))

    -- there is no room for it
    no_room_by : (e : NoRoom) (u : States C cost eq keyed) (o : Option NoRoom) → lack m G (most_keys a) (most_rows a) (accepted h) tree_of.0 ≡ o → GivesBy o m G a.states u (accepted h) tree_of.0 (Err e) → (lack m G (most_keys a) (most_rows a) (accepted h) tree_of.0 ≡ Some e) × Knows m G u (accepted h) × SameTables a.states u
    no_room_by e u None q g = absurd (let w = g.0 in let z : ◌≡◌ {A = ℕ} 0 1 = cc in omega arith)
    no_room_by e u (Some f) q g = (q ∙ (let w = g.0 in let z : f ≡ e = cc in ap (λ y. Some y) z), g.1, g.2)

    pub adds_no_room : (e : NoRoom) (b : Automaton C cost eq keyed) → b.grammar ≡ a.grammar → b.nodes ≡ a.nodes → Gives m G a.states b.states (accepted h) tree_of.0 (Err e) → (r : Result (ℕ × Option ℕ) AddRefusal) → r ≡ Err (Room e) → AddsTo m a h x r b
    adds_no_room e b same-grammar same_nodes g r q =
        let k = no_room_by e b.states (lack m G (most_keys a) (most_rows a) (accepted h) tree_of.0) refl g in
        let lists : grammar_of b ≡ grammar_of a = ap (λ z. grammar_lists z.now) same-grammar in
        subst (λ z. AddsTo m a h x z b) (sym q)
        (record {
          answer = sym (ap (λ o. answer_by o m G h x) (refusal_is ∙ ap (by_room None) k.0));
          lived = record {
            few = (let y = ap (λ v. most_of v) same_nodes in let f = lived.few in omega arith);
            nodes = ap (λ v. nodes_of v) same_nodes ∙ lived.nodes;
            labels = ap (λ v. labels_of v) same_nodes ∙ lived.labels ∙ ap (λ z. open_labels m z h) (sym lists);
            listed = subst (λ (z : Lists C). Listed z.operators (open_nodes h)) (sym lists) lived.listed;
            opens = lived.opens;
            knows = subst (λ z. Knows m z b.states (accepted h)) (sym lists) k.1;
          };
          labels = λ p w. absurd (not_both (Room e) p w);
          unchanged = λ _ _. record { grammar = same-grammar; nodes = same_nodes; states = k.2 };
        })

    -- there is
    room_by : (j : ℕ) (u : States C cost eq keyed) (o : Option NoRoom) → lack m G (most_keys a) (most_rows a) (accepted h) tree_of.0 ≡ o → GivesBy o m G a.states u (accepted h) tree_of.0 (Ok j) → (lack m G (most_keys a) (most_rows a) (accepted h) tree_of.0 ≡ None) × (j ≡ label m G (accepted h ++ tree_of.0 ∷ []) tree_of.0) × Knows m G u (accepted h ++ tree_of.0 ∷ [])
    room_by j u None q g = (q, (let w = g.0 in cc), g.1)
    room_by j u (Some f) q g = absurd (let w = g.0 in let z : ◌≡◌ {A = ℕ} 0 1 = cc in omega arith)

    accepted_is : accepted (added x ∷ h) ≡ accepted h ++ tree_of.0 ∷ []
    accepted_is = ap (λ o. accepted h ++ as_list o) is_tree

    trees_are : open_trees (added x ∷ h) ≡ open_trees h ++ Some tree_of.0 ∷ []
    trees_are = trees_more (open_nodes h) x ∙ ap (λ o. open_trees h ++ o ∷ []) is_tree

    labels_are : open_labels m G (added x ∷ h) ≡ open_labels m G h ++ Some (label m G (accepted h ++ tree_of.0 ∷ []) tree_of.0) ∷ []
    labels_are = (λ i. map (option_map (label m G (accepted_is i))) (trees_are i)) ∙ labels_more laws G (accepted h) tree_of.0 (open_trees h) lived.opens

    -- the list of nodes once it is pushed
    pub pushes_here : (v : Nodes) (l : Option ℕ) (o : Option NodeNumber) → Pushed a.nodes x l o v → Appended a.nodes x l o v
    pushes_here v l o p =
        let n = ap length lived.nodes in
        let r = room_left in
        pushed_more a.nodes v x l o (omega arith)
        (subst (λ z. Below (length z) (kids x.top)) (sym lived.nodes) (checked_below G.operators (most_nodes a) ns x passed)) p

    pub adds_more : (j : ℕ) (b : Automaton C cost eq keyed) → b.grammar ≡ a.grammar → most_nodes b ≡ most_nodes a → Gives m G a.states b.states (accepted h) tree_of.0 (Ok j) → (o : Option NodeNumber) → Appended a.nodes x (Some j) o b.nodes → (r : Result (ℕ × Option ℕ) AddRefusal) → r ≡ Ok (length (open_nodes h), Some j) → AddsTo m a h x r b
    adds_more j b same-grammar most g o p r q =
        let k = room_by j b.states (lack m G (most_keys a) (most_rows a) (accepted h) tree_of.0) refl g in
        let lists : grammar_of b ≡ grammar_of a = ap (λ z. grammar_lists z.now) same-grammar in
        let labels : open_labels m (grammar_of b) (added x ∷ h) ≡ open_labels m G h ++ Some j ∷ [] = ap (λ z. open_labels m z (added x ∷ h)) lists ∙ labels_are ∙ ap (λ z. open_labels m G h ++ Some z ∷ []) (sym k.1) in
        subst (λ z. AddsTo m a h x z b) (sym q)
        (record {
          answer = sym (ap (λ o. answer_by o m G h x) (refusal_is ∙ ap (by_room None) k.0) ∙ ap (λ o. Ok (length (open_nodes h), label_then m G (accepted h) o)) is_tree ∙ ap (λ z. Ok (length (open_nodes h), Some z)) (sym k.1));
          lived = record {
            few = (let f = lived.few in omega arith);
            nodes = p.nodes ∙ ap (λ z. z ++ x ∷ []) lived.nodes;
            labels = p.labels ∙ ap (λ z. z ++ Some j ∷ []) lived.labels ∙ sym labels;
            listed = subst (λ (z : Lists C). Listed z.operators (open_nodes h ++ x ∷ [])) (sym lists) more_listed;
            opens = λ i u e. subst (In u) (sym accepted_is) (opens_more (accepted h) tree_of.0 (open_trees h) lived.opens i u (ap (λ z. at z i) (sym trees_are) ∙ e));
            knows = subst (λ z. Knows m z b.states (accepted (added x ∷ h))) (sym lists) (subst (Knows m G b.states) (sym accepted_is) k.2);
          };
          labels = λ p w. labels_are ∙ ap (λ z. open_labels m G h ++ Some z ∷ []) (sym k.1) ∙ ap (λ z. open_labels m G h ++ z ∷ []) (second_of (length (open_nodes h), Some j) p w);
          unchanged = λ e w. absurd (not_both e (length (open_nodes h), Some j) (sym w));
        })
