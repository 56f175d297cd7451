-- The choices in the rows.
use Rattle.std.proofs.Common.{◌≡◌, ℕ, ◌+◌, ◌*◌, ◌<◌, ◌≤◌, List, [], length, Some, None, Option, sym, ap, ◌∙◌, subst, arith}
use Rattle.std.proofs.lemmas.List.{get_or_past}
use Rattle.cost.specs.Model.{Model}
use Rattle.grammar.specs.Lists.{Lists}
use Rattle.covers.specs.Nodes.{Node, subtrees_after, subtree}
use Rattle.covers.specs.Ranks.{best}
use Rattle.covers.specs.Rows.{cost_row}
use Rattle.covers.specs.Trees.{Tree, count}
use Rattle.covers.proofs.NodeTrees.{subtree_each, subtrees_length}
use Rattle.nodes.proofs.Pushing.{nodes_count}
use Rattle.nodes.specs.declared.Nodes.{Nodes}
use Rattle.nodes.specs.Meaning.{most_of, nodes_of}
use Rattle.label.specs.Meaning.{choice_of}
use Rattle.row.specs.Views.{row_in}
use Rattle.row.specs.declared.work.Work.{Work}
use Rattle.plain.specs.Keeping.{Keeps}
use Rattle.plain.specs.Rows.{row_at, rule_in}
use Rattle.plain.proofs.RowRules.{cost_rule}
use Rattle.plain.proofs.Moving.{ends_before}

module _ {C : Type 0} (m : Model C) (G : Lists C) (v : Nodes) (row rows : List (Option (Work C))) (keeps : Keeps m G v row rows) (i n : ℕ) where
  abbrev ns : List Node
  ns = nodes_of v

  pub choice_not : length ns ≤ i → None ≡ choice_of m G (subtree ns i) n
  choice_not h = sym (ap (λ z. choice_of m G z n) (get_or_past (subtrees_after [] ns) i None (omega (arith, subtrees_length ns []))))

  -- there are no more nodes than there may be
  nodes_few : length ns ≤ most_of v
  nodes_few = (let few = v.few in omega (arith, nodes_count v))

  choice_here : (r : Option ℕ) → i < length ns → ((t : Tree) → subtree ns i ≡ Some t → r ≡ rule_in (cost_row m G t) n) → r ≡ choice_of m G (subtree ns i) n
  choice_here r h f =
      let t = subtree_each G.operators ns keeps.listed i h in
      f t.0 t.1 ∙ cost_rule (best m G t.0) n ∙ ap (λ z. choice_of m G z n) (sym t.1)

  pub choice_newest : (r : Option ℕ) → i + 1 ≡ length ns → r ≡ rule_in (row_in row) n → r ≡ choice_of m G (subtree ns i) n
  choice_newest r h e = choice_here r (omega arith) (λ t s. e ∙ ap (λ z. rule_in z n) (keeps.newest i t s h))

  pub choice_earlier : (r : Option ℕ) (w : ℕ) → w ≡ length row → i + 1 < length ns
      → (i * w + w ≤ length rows → r ≡ rule_in (row_at rows w i) n) → r ≡ choice_of m G (subtree ns i) n
  choice_earlier r w wide h e =
      let N = count G in
      let same : w ≡ N = wide ∙ keeps.width in
      let all = keeps.places in
      let width = keeps.width in
      let few = nodes_few in
      let room : i + 1 < most_of v = omega arith in
      let two : i * N + N + N ≤ most_of v * N = omega (arith, ends_before N i (i + 1) (omega arith), ends_before N (i + 1) (most_of v) room) in
      let fits : i * N + N ≤ length rows = omega arith in
      choice_here r (omega arith)
      (λ t s. e (subst (λ z. i * z + z ≤ length rows) (sym same) fits) ∙ ap (λ z. rule_in (row_at rows z i) n) same ∙ ap (λ z. rule_in z n) (keeps.earlier i t s h))
