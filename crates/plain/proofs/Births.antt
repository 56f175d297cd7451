-- Births that are refused, and those that are not.
use Rattle.std.proofs.Common.{◌≡◌, ℕ, ◌+◌, ◌*◌, ◌<◌, ◌≤◌, Bool, true, false, cond, ◌&&◌, leb, ◌⊎◌, List, [], map, length, Some, None, Option, sym, ap, ◌∙◌, subst, inl, inr}
use Rattle.std.proofs.lemmas.List.{length-map}
use Rattle.std.proofs.lemmas.Bool.{le-leb, lt-leb, and_from, and_left, and_right}
use Rattle.cost.specs.Model.{Model}
use Rattle.grammar.specs.Lists.{Lists}
use Rattle.covers.specs.Nodes.{Listed, subtree}
use Rattle.covers.specs.Trees.{count}
use Rattle.covers.proofs.Relaxing.{none_some}
use Rattle.nodes.specs.declared.Nodes.{Nodes}
use Rattle.nodes.specs.Meaning.{most_of, nodes_of, labels_of}
use Rattle.row.specs.declared.work.Work.{Work}
use Rattle.label.specs.declared.refusals.BirthRefusal.TheVariants.{Capacity, Memory}
use Rattle.plain.specs.Birth.{node_capacity, birth}
use Rattle.plain.specs.Keeping.{no_labels, Keeps}

-- how many items a list has that is read through a view
pub lengths : {A B : Type 0} (f : A → B) (xs : List A) (ys : List B) → map f xs ≡ ys → length xs ≡ length ys
lengths f xs ys same = sym (length-map xs f) ∙ ap length same

module _ (most n nodes rows : ℕ) (least : 1 ≤ most) (few : most ≤ 2048) where
  within : node_capacity most ≡ true
  within = and_from (leb 1 most) (leb most 2048) (le-leb 1 most least) (le-leb most 2048 few)

  birth_by : (b : Bool) → (leb most nodes && leb (most * n) rows) ≡ b → birth most n nodes rows ≡ cond b None (Some Memory)
  birth_by b e = ap (λ z. cond z (cond (leb most nodes && leb (most * n) rows) None (Some Memory)) (Some Capacity)) within ∙ ap (λ z. cond z None (Some Memory)) e

  pub birth_short : (nodes < most) ⊎ (rows < most * n) → birth most n nodes rows ≡ Some Memory
  birth_short (inl h) = birth_by false (and_left (leb most nodes) (leb (most * n) rows) (lt-leb most nodes h))
  birth_short (inr h) = birth_by false (and_right (leb most nodes) (leb (most * n) rows) (lt-leb (most * n) rows h))

  pub birth_fits : most ≤ nodes → most * n ≤ rows → birth most n nodes rows ≡ None
  birth_fits h k = birth_by true (and_from (leb most nodes) (leb (most * n) rows) (le-leb most nodes h) (le-leb (most * n) rows k))

-- a list without nodes has no rows
pub keeps_none : {C : Type 0} (m : Model C) (G : Lists C) (v : Nodes) (row rows : List (Option (Work C))) → most_of v ≤ 2048 → nodes_of v ≡ [] → labels_of v ≡ []
    → length row ≡ count G → most_of v * count G ≤ length row + length rows → Keeps m G v row rows
keeps_none m G v row rows few nodes labels width places = record {
  few = few;
  labels = labels ∙ ap no_labels (sym nodes);
  listed = subst (Listed G.operators) (sym nodes) (record { fits = λ i x e. absurd (none_some x e); below = λ i x e. absurd (none_some x e); once = tt });
  width = width;
  places = places;
  newest = λ i t e h. absurd (none_some t (ap (λ z. subtree z i) (sym nodes) ∙ e));
  earlier = λ i t e h. absurd (none_some t (ap (λ z. subtree z i) (sym nodes) ∙ e));
}
