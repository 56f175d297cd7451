use Rattle.std.proofs.Common.{refl, ap, ◌∙◌, arith}
use Rattle.label.specs.Views.{rule_number}
use Rattle.plain.specs.Meaning.{grammar_of}
use Rattle.plain.proofs.Questions.{choice_not, choice_newest, choice_earlier}
use Rattle.plain.proofs.Labelling.{plain_choice}
use Rattle.plain.proofs.labeller.PlainLabeller.choice.Goals as goal

pub returns-in_err-from_here-clause-nodes : goal.returns-in_err-from_here-clause-nodes
returns-in_err-from_here-clause-nodes g c =
    ap rule_number c.from_residual.ensures ∙ choice_not g.C.Cost.model (grammar_of c.args.self.now) c.args.self.now.nodes c.args.self.now.newest.now c.args.self.now.earlier.now c.args.self.now.keeps c.args.node.0 c.args.nonterminal.0
    (let n = c.in_err-from_here.ensures in omega (arith, c.count.ensures.nodes))

pub returns-in_err-from_here-clause-means : goal.returns-in_err-from_here-clause-means
returns-in_err-from_here-clause-means g c μ h = plain_choice c.args.self.now μ h g.C.Cost.model c.args.node.0 c.args.nonterminal.0 _ (returns-in_err-from_here-clause-nodes g c)

pub returns-in-0-clause-nodes : goal.returns-in-0-clause-nodes
returns-in-0-clause-nodes g c =
    choice_not g.C.Cost.model (grammar_of c.args.self.now) c.args.self.now.nodes c.args.self.now.newest.now c.args.self.now.earlier.now c.args.self.now.keeps c.args.node.0 c.args.nonterminal.0
    (let n = c.in_ok-from_here.ensures in omega (arith, c.count.ensures.nodes, c.in-0.is))

pub returns-in-0-clause-means : goal.returns-in-0-clause-means
returns-in-0-clause-means g c μ h = plain_choice c.args.self.now μ h g.C.Cost.model c.args.node.0 c.args.nonterminal.0 _ (returns-in-0-clause-nodes g c)

pub returns-in-1-clause-nodes : goal.returns-in-1-clause-nodes
returns-in-1-clause-nodes g c =
    choice_newest g.C.Cost.model (grammar_of c.args.self.now) c.args.self.now.nodes c.args.self.now.newest.now c.args.self.now.earlier.now c.args.self.now.keeps c.args.node.0 c.args.nonterminal.0 (rule_number c.rule_at.result)
    (let n = c.in_ok-from_here.ensures in omega (arith, c.count.ensures.nodes, c.in-1.is)) c.rule_at.ensures

pub returns-in-1-clause-means : goal.returns-in-1-clause-means
returns-in-1-clause-means g c μ h = plain_choice c.args.self.now μ h g.C.Cost.model c.args.node.0 c.args.nonterminal.0 _ (returns-in-1-clause-nodes g c)

pub returns-in_default-clause-nodes : goal.returns-in_default-clause-nodes
returns-in_default-clause-nodes g c =
    choice_earlier g.C.Cost.model (grammar_of c.args.self.now) c.args.self.now.nodes c.args.self.now.newest.now c.args.self.now.earlier.now c.args.self.now.keeps c.args.node.0 c.args.nonterminal.0 (rule_number c.kept_rule.result) _ refl
    (let n = c.in_ok-from_here.ensures in omega (arith, c.count.ensures.nodes)) c.kept_rule.ensures

pub returns-in_default-clause-means : goal.returns-in_default-clause-means
returns-in_default-clause-means g c μ h = plain_choice c.args.self.now μ h g.C.Cost.model c.args.node.0 c.args.nonterminal.0 _ (returns-in_default-clause-nodes g c)
