use Rattle.std.proofs.Common.{refl, ap, ◌∙◌}
use Rattle.grammar.specs.Lists.{Lists}
use Rattle.nodes.specs.Views.{node_of}
use Rattle.plain.proofs.Answering.{adds_more, keeps_after}
use Rattle.plain.proofs.Labelling.{plain_adds}
use Rattle.plain.proofs.labeller.PlainLabeller.add.Goals as goal

pub invariant_of-self : goal.invariant_of-self
invariant_of-self g c =
    let p = c.args.self.now in
    let lists = c.declarations-declarations.ensures.lists in
    let ops = c.operators.ensures ∙ ap (λ (z : Lists g.row.C.Denot). z.operators) lists in
    let rules = c.rules-rules.ensures ∙ ap (λ (z : Lists g.row.C.Denot). z.rules) lists in
    record {
      keeps = keeps_after g.C.Cost.model _ p.grammar.now.sealed.declared p.nodes _ _ p.keeps c.args.node _ ops c.in_ok-check.ensures.answer
          c.add_node-added.new.nodes c.add_node-added.ensures.kept.most _ rules _ _ c.add_node-added.result c.add_node-added.ensures.pushed c.add_node-added.ensures.rows;
    }

pub returns-clause-means : goal.returns-clause-means
returns-clause-means g c μ h =
    let p = c.args.self.now in
    let ops = c.operators.ensures ∙ ap (λ (z : Lists g.row.C.Denot). z.operators) c.declarations-declarations.ensures.lists in
    plain_adds p μ h _ (record { grammar = refl; most = c.add_node-added.ensures.kept.most }) (node_of c.args.node) _
    (adds_more _ p.nodes c.args.node _ ops c.in_ok-check.ensures.answer c.add_node-added.new.nodes c.add_node-added.result c.add_node-added.ensures.pushed c.in_ok-number.number c.in_ok-number.ensures.value)
