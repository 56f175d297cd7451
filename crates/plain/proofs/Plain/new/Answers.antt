use Rattle.std.proofs.Common.{◌≤◌, ◌*◌, ◌+◌, length, sym, ap, ◌∙◌, subst, inl, inr, mul-le-mul_right, rules, arith}
use native.Mathlib.Nat.{min-eq_left}
use Rattle.covers.specs.Trees.{count}
use Rattle.grammar.specs.Lists.{Lists}
use Rattle.grammar.specs.Meaning.{grammar_lists}
use Rattle.grammar.specs.Views.{nonterminal_of}
use Rattle.plain.proofs.Births.{birth_short, keeps_none, lengths}
use Rattle.plain.proofs.Plain.new.Goals.{then-nodes-most-via-then-nodes-most, then-nodes-most-via-else-nodes-most+then-rows-most}
use Rattle.plain.proofs.Plain.new.Goals as goal

pub returns-then-nodes-most : goal.returns-then-nodes-most
returns-then-nodes-most g c =
    let least : 1 ≤ c.args.most = search rules in
    let few : c.args.most ≤ 2048 = search rules in
    let wide =
    lengths nonterminal_of c.nonterminals-width.result.now _
    (c.nonterminals-width.ensures ∙ ap (λ (z : Lists g.row.C.Denot). z.nonterminals) c.declarations.ensures.lists) in
    birth_short c.args.most _ (length c.args.nodes.now) (length c.args.rows.now) least few
    (elim c.then-nodes-most.branch [
      | then-nodes-most-via-then-nodes-most w ↦ inl w.if-nodes-most.true
      | then-nodes-most-via-else-nodes-most+then-rows-most w ↦ inr (omega (arith, w.if-rows-most.true, ap (λ z. c.args.most * z) wide))
    ])

pub split_at_mut-newest-requires : goal.split_at_mut-newest-requires
split_at_mut-newest-requires g c =
    let least : 1 ≤ c.args.most = search rules in
    omega (arith, mul-le-mul_right (length c.nonterminals-width.result.now) least, c.if-rows-most.false)

pub invariant_of-result : goal.invariant_of-result
invariant_of-result g c =
    let few : c.args.most ≤ 2048 = search rules in
    let wide =
    lengths nonterminal_of c.nonterminals-width.result.now _
    (c.nonterminals-width.ensures ∙ ap (λ (z : Lists g.row.C.Denot). z.nonterminals) c.declarations.ensures.lists) in
    let most = c.new-2.ensures.most ∙ min-eq_left c.if-nodes-most.false in
    let enough = ap (λ z. c.args.most * z) wide in
    record {
      keeps = keeps_none g.C.Cost.model _ c.new-2.result _ _ (omega (arith, most)) c.new-2.ensures.nodes c.new-2.ensures.labels (c.split_at_mut-newest.ensures.front_len ∙ wide)
          (subst (λ z. z * count (grammar_lists c.args.grammar.now) ≤ length c.split_at_mut-newest.result.0.now + length c.split_at_mut-newest.result.1.now) (sym most)
          (omega (arith, c.if-rows-most.false, c.split_at_mut-newest.ensures.front_len, c.split_at_mut-newest.ensures.back_len)));
    }
