-- An automaton as a labeller: what its history says.
use Rattle.std.proofs.Common.{◌≡◌, ℕ, [], ◌∷◌, ◌++◌, length, Some, None, Ok, Err, Option, Result, sym, refl, ap, ◌∙◌, subst, arith}
use Rattle.cost.specs.Model.{Model}
use Rattle.grammar.specs.Lists.{Lists, Sealed}
use Rattle.covers.specs.Nodes.{Node, Listed}
use Rattle.covers.specs.Held.{rows_held, keys_held}
use Rattle.nodes.specs.Checks.{check_node}
use Rattle.nodes.proofs.Pushing.{nodes_few, labels_count}
use Rattle.label.specs.Meaning.{Meaning, Sound, Started, Cleared, AddsBy, Adds, by_room, refusal}
use Rattle.label.specs.declared.refusals.AddRefusal.{AddRefusal}
use Rattle.automaton.specs.declared.Automaton.{Automaton}
use Rattle.automaton.specs.Histories.{History, started, cleared, added, refused, open_nodes, open_labels, accepted, new_tree, room_after, event}
use Rattle.automaton.specs.Meaning.{grammar_of, most_nodes, most_keys, most_rows, Lived, Fixed, AddsTo, refusal_after, answer_by, label_then, AutomatonMeans}

-- what a history says
abbrev pub told : {C : Type 0} {cost eq keyed : _} → Model C → Automaton C cost eq keyed → History → Meaning C
told m a h = record {
  grammar = grammar_of a;
  most = most_nodes a;
  nodes = open_nodes h;
  labels = open_labels m (grammar_of a) h;
  rows = length (rows_held m (grammar_of a) (accepted h));
  keys = length (keys_held m (grammar_of a) (accepted h));
  room = room_after m (grammar_of a) (most_keys a) (most_rows a) h;
}

told_means : {C : Type 0} {cost eq keyed : _} (m : Model C) (a : Automaton C cost eq keyed) (h : History) → Lived m a h → AutomatonMeans m a (told m a h)
told_means m a h l = record { history = h; lived = l; grammar = refl; most = refl; nodes = refl; labels = refl; rows = refl; keys = refl; room = λ x. refl }

module _ {C : Type 0} {cost eq keyed : _} (m : Model C) (a : Automaton C cost eq keyed) (μ : Meaning C) (means : AutomatonMeans m a μ) where
  pub automaton_sound : Sound m μ
  automaton_sound =
      let l = means.lived in
      let g = means.grammar in
      record {
        sealed = subst (Sealed m) (sym g) l.knows.sealed;
        few = (let e = means.most in let f = l.few in omega arith);
        listed = subst (λ (z : Lists C). Listed z.operators μ.nodes) (sym g) (subst (Listed (grammar_of a).operators) (sym means.nodes) l.listed);
        within = (let e = means.most in let n = ap length means.nodes in let k = ap length l.nodes in let f = nodes_few a.nodes in omega arith);
        labelled = ap length means.labels ∙ ap length (sym l.labels) ∙ labels_count a.nodes ∙ ap length l.nodes ∙ ap length (sym means.nodes);
      }

  pub automaton_started : (b : Automaton C cost eq keyed) → Fixed a b → ((h : History) → Lived m a h → Lived m b (started ∷ h)) → (ν : Meaning C) × Started μ ν × AutomatonMeans m b ν
  automaton_started b f next =
      let h = means.history in (
        told m b (started ∷ h),
        record {
          fixed = record { grammar = f.grammar ∙ sym means.grammar; most = f.nodes ∙ sym means.most };
          nodes = refl;
          labels = refl;
          rows = ap (λ z. length (rows_held m z (accepted h))) f.grammar ∙ sym means.rows;
          keys = ap (λ z. length (keys_held m z (accepted h))) f.grammar ∙ sym means.keys;
        },
        told_means m b (started ∷ h) (next h means.lived),
      )

  pub automaton_cleared : (b : Automaton C cost eq keyed) → Fixed a b → ((h : History) → Lived m a h → Lived m b (cleared ∷ h)) → (ν : Meaning C) × Cleared μ ν × AutomatonMeans m b ν
  automaton_cleared b f next =
      let h = means.history in (
        told m b (cleared ∷ h),
        record { fixed = record { grammar = f.grammar ∙ sym means.grammar; most = f.nodes ∙ sym means.most }; nodes = refl; labels = refl; rows = refl; keys = refl },
        told_means m b (cleared ∷ h) (next h means.lived),
      )

  -- ---- one more node

  module _ (b : Automaton C cost eq keyed) (fixed : Fixed a b) (x : Node) where
    same_refusal : refusal μ x ≡ refusal_after m a means.history x
    same_refusal = (λ i. by_room (check_node (means.grammar i).operators (means.most i) (means.nodes i) x) (means.room x i))

    -- the meaning is the same where the history says the same
    same_means : (k : History) → Lived m b k → open_nodes k ≡ open_nodes means.history → accepted k ≡ accepted means.history → ((z : Node) → room_after m (grammar_of b) (most_keys b) (most_rows b) k z ≡ room_after m (grammar_of b) (most_keys b) (most_rows b) means.history z) → open_labels m (grammar_of b) k ≡ open_labels m (grammar_of b) means.history → AutomatonMeans m b μ
    same_means k l n t r s = record {
      history = k;
      lived = l;
      grammar = means.grammar ∙ sym fixed.grammar;
      most = means.most ∙ sym fixed.nodes;
      nodes = means.nodes ∙ sym n;
      labels = means.labels ∙ ap (λ z. open_labels m z means.history) (sym fixed.grammar) ∙ sym s;
      rows = means.rows ∙ (λ i. length (rows_held m (sym fixed.grammar i) (sym t i)));
      keys = means.keys ∙ (λ i. length (keys_held m (sym fixed.grammar i) (sym t i)));
      room = λ z. means.room z ∙ (λ i. room_after m (sym fixed.grammar i) (sym fixed.keys i) (sym fixed.rows i) means.history z) ∙ sym (r z);
    }

    adds_by : (o : Option AddRefusal) (r : Result (ℕ × Option ℕ) AddRefusal) → r ≡ answer_by o m (grammar_of a) means.history x → Lived m b (event x r ∷ means.history) → ((q : ℕ × Option ℕ) → r ≡ Ok q → open_labels m (grammar_of b) (added x ∷ means.history) ≡ open_labels m (grammar_of b) means.history ++ q.1 ∷ []) → AddsBy o (AutomatonMeans m b) μ x r
    adds_by (Some e) (Ok q) s l w = absurd (let z : ◌≡◌ {A = ℕ} 0 1 = cc in omega arith)
    adds_by (Some e) (Err f) s l w = (s, same_means (refused x ∷ means.history) l refl refl (λ z. refl) refl)
    adds_by None (Err f) s l w = absurd (let z : ◌≡◌ {A = ℕ} 0 1 = cc in omega arith)
    adds_by None (Ok q) s l w =
        let first : q.0 ≡ length (open_nodes means.history) = ok_first q (length (open_nodes means.history), label_then m (grammar_of a) (accepted means.history) (new_tree means.history x)) s in (
          first ∙ ap length (sym means.nodes),
          (
            told m b (added x ∷ means.history),
            record {
              fixed = record { grammar = fixed.grammar ∙ sym means.grammar; most = fixed.nodes ∙ sym means.most };
              nodes = ap (λ z. z ++ x ∷ []) (sym means.nodes);
              labels = w q refl ∙ ap (λ z. z ++ q.1 ∷ []) (ap (λ z. open_labels m z means.history) fixed.grammar ∙ sym means.labels);
            },
            told_means m b (added x ∷ means.history) l,
          ),
        )
      where
        ok_first : (p q : ℕ × Option ℕ) → ◌≡◌ {A = Result (ℕ × Option ℕ) AddRefusal} (Ok p) (Ok q) → p.0 ≡ q.0
        ok_first p q e = (let s : p ≡ q = cc in ap (λ z. z.0) s)

    pub automaton_adds : (r : Result (ℕ × Option ℕ) AddRefusal) → AddsTo m a means.history x r b → Adds (AutomatonMeans m b) μ x r
    automaton_adds r adds =
        subst (λ o. AddsBy o (AutomatonMeans m b) μ x r) (sym same_refusal)
        (adds_by (refusal_after m a means.history x) r adds.answer adds.lived (λ q e. ap (λ z. open_labels m z (added x ∷ means.history)) fixed.grammar ∙ adds.labels q e ∙ ap (λ z. open_labels m z means.history ++ q.1 ∷ []) (sym fixed.grammar)))
