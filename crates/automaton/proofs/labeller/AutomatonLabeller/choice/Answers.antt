use Rattle.std.proofs.Common.{sym, refl, ap, ◌∙◌}
use Rattle.std.specs.Option.{option_map}
use Rattle.covers.specs.Ranks.{at}
use Rattle.covers.specs.Nodes.{subtree}
use Rattle.covers.specs.Held.{label}
use Rattle.covers.proofs.NodeTrees.{mapped_some}
use Rattle.covers.proofs.Shifts.{at_map}
use Rattle.label.specs.Meaning.{choice_of}
use Rattle.automaton.specs.Histories.{open_trees, accepted}
use Rattle.automaton.specs.Meaning.{grammar_of}
use Rattle.automaton.proofs.labeller.AutomatonLabeller.choice.Goals as goal

pub returns-clause-lived : goal.returns-clause-lived
returns-clause-lived g c h l =
    let m = g.C.Cost.model in
    let G = grammar_of c.args.self.now in
    let i = c.args.node.0 in
    let read = ap (λ z. at z i) l.labels ∙ at_map (option_map (label m G (accepted h))) refl (open_trees h) i in
    let k = mapped_some (label m G (accepted h)) (at (open_trees h) i) c.in_ok-label.label.0 (sym (c.in_ok-label.ensures ∙ read)) in
    c.choice.ensures G (accepted h) k.0 l.knows (l.opens i k.0 k.1) (sym k.2) ∙ ap (λ o. choice_of m G o c.args.nonterminal.0) (sym k.1)

pub returns-clause-means : goal.returns-clause-means
returns-clause-means g c μ h =
    returns-clause-lived g c h.history h.lived ∙ (λ i. choice_of g.C.Cost.model (sym h.grammar i) (subtree (sym h.nodes i) c.args.node.0) c.args.nonterminal.0)
