-- A plain labeller as a labeller.
use Rattle.std.proofs.Common.{◌≡◌, ℕ, zero, suc, List, [], ◌∷◌, ◌++◌, length, Some, None, Option, Result, sym, refl, ap, ◌∙◌, subst}
use Rattle.std.proofs.lemmas.List.{map_push}
use Rattle.cost.specs.Model.{Model}
use Rattle.covers.specs.Nodes.{Node, subtree}
use Rattle.covers.specs.Ranks.{at}
use Rattle.nodes.specs.declared.NodeRefusal.{NodeRefusal}
use Rattle.nodes.specs.Checks.{check_node}
use Rattle.label.specs.Meaning.{Meaning, Started, Appended, Adds, AddsBy, by_room, refusal, choice_of, choice_at}
use Rattle.label.specs.declared.refusals.AddRefusal.{AddRefusal}
use Rattle.plain.specs.declared.Plain.{Plain}
use Rattle.plain.specs.Keeping.{no_labels}
use Rattle.plain.specs.Meaning.{grammar_of, most_nodes, open_nodes, Fixed, Emptied, PlainMeans, AddsPlain}

module _ {C : Type 0} {cost eq : _} (p : Plain C cost eq) (μ : Meaning C) (means : PlainMeans p μ) where
  -- without nodes
  abbrev emptied : Meaning C
  emptied = record { grammar = μ.grammar; most = μ.most; nodes = []; labels = []; rows = μ.rows; keys = μ.keys; room = μ.room }

  empty_means : (q : Plain C cost eq) → Emptied p q → PlainMeans q emptied
  empty_means q e = record {
    grammar = means.grammar ∙ sym e.fixed.grammar;
    most = means.most ∙ sym e.fixed.most;
    nodes = sym e.nodes;
    labels = refl;
    rows = means.rows;
    keys = means.keys;
    room = means.room;
  }

  pub plain_started : (q : Plain C cost eq) → Emptied p q → (ν : Meaning C) × Started μ ν × PlainMeans q ν
  plain_started q e = (
    emptied,
    record { fixed = record { grammar = refl; most = refl }; nodes = refl; labels = refl; rows = refl; keys = refl },
    empty_means q e,
  )

  -- with one more node
  module _ (q : Plain C cost eq) (fixed : Fixed p q) (x : Node) (r : Result (ℕ × Option ℕ) AddRefusal) where
    abbrev more : Meaning C
    more = record { grammar = μ.grammar; most = μ.most; nodes = μ.nodes ++ x ∷ []; labels = μ.labels ++ None ∷ []; rows = μ.rows; keys = μ.keys; room = μ.room }

    adds_by : (o : Option NodeRefusal) → AddsPlain o (open_nodes p) x r (open_nodes q) → AddsBy (by_room o None) (PlainMeans q) μ x r
    adds_by (Some e) h = (
      h.0,
      record {
        grammar = means.grammar ∙ sym fixed.grammar;
        most = means.most ∙ sym fixed.most;
        nodes = means.nodes ∙ sym h.1;
        labels = means.labels;
        rows = means.rows;
        keys = means.keys;
        room = means.room;
      },
    )
    adds_by None h =
        let appended : Appended μ x None more = record { fixed = record { grammar = refl; most = refl }; nodes = refl; labels = refl } in
        let after : PlainMeans q more = record {
          grammar = means.grammar ∙ sym fixed.grammar;
          most = means.most ∙ sym fixed.most;
          nodes = ap (λ z. z ++ x ∷ []) means.nodes ∙ sym h.1;
          labels = ap (λ z. z ++ None ∷ []) means.labels ∙ sym (map_push (λ (_ : Node). None) μ.nodes x);
          rows = means.rows;
          keys = means.keys;
          room = means.room;
        } in
        subst (AddsBy None (PlainMeans q) μ x) (sym h.0) (ap length (sym means.nodes), (more, appended, after))

    refusals_are : by_room (check_node (grammar_of p).operators (most_nodes p) (open_nodes p) x) None ≡ refusal μ x
    refusals_are = sym (λ i. by_room (check_node (means.grammar i).operators (means.most i) (means.nodes i) x) (means.room x i))

    pub plain_adds : AddsPlain (check_node (grammar_of p).operators (most_nodes p) (open_nodes p) x) (open_nodes p) x r (open_nodes q) → Adds (PlainMeans q) μ x r
    plain_adds h =
        subst (λ z. AddsBy z (PlainMeans q) μ x r) refusals_are (adds_by (check_node (grammar_of p).operators (most_nodes p) (open_nodes p) x) h)

  -- the choice that is meant is that among the labeller's own nodes
  pub plain_choice : (m : Model C) (i n : ℕ) (r : Option ℕ) → r ≡ choice_of m (grammar_of p) (subtree (open_nodes p) i) n → r ≡ choice_at m μ i n
  plain_choice m i n r e = e ∙ sym (λ j. choice_of m (means.grammar j) (subtree (means.nodes j) i) n)

  no_label : (ns : List Node) (i : ℕ) → None ≡ at (no_labels ns) i
  no_label [] i = refl
  no_label (x ∷ ns) zero = refl
  no_label (x ∷ ns) (suc i) = no_label ns i

  pub plain_label : (i : ℕ) → None ≡ at μ.labels i
  plain_label i = no_label μ.nodes i ∙ ap (λ z. at z i) (sym means.labels)
