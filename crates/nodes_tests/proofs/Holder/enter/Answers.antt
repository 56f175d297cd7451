use Rattle.std.proofs.Common.{map, ◌∙◌, sym, subst}
use Rattle.grammar.specs.Views.{operator_of}
use Rattle.nodes.specs.Views.{node_of, label_of}
use Rattle.nodes_tests.specs.Entering.{Enters}
use Rattle.nodes_tests.proofs.Entered.{enters_pushed}
use Rattle.nodes_tests.proofs.Holder.enter.Goals as goal

pub returns : goal.returns
returns c g =
    let ops = map operator_of c.args.operators.now in
    let v = c.args.self.now.nodes in
    let x = node_of c.args.node in
    let l = label_of c.args.label in
    subst (λ r. Enters ops v x l r c.push.new.self) (sym c.ok_or.ensures.value)
    (enters_pushed ops v x l g c.push.result c.push.new.self (sym c.in_default.is ∙ c.check.ensures.answer) c.push.ensures.pushed)
