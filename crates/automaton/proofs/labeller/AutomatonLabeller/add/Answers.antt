use Rattle.std.proofs.Common.{length, Some, Ok, Err, sym, refl, ap, ◌∙◌}
use Rattle.std.proofs.lemmas.Result.{err_from_is_err_and}
use Rattle.grammar.specs.Lists.{Lists}
use Rattle.label.specs.Views.{add_answer}
use Rattle.nodes.specs.Views.{node_of}
use Rattle.automaton.specs.Histories.{accepted, key_by}
use Rattle.automaton.specs.Meaning.{grammar_of}
use Rattle.automaton.proofs.Meaning.{automaton_adds}
use Rattle.automaton.proofs.Answering.{check_none, check_some, never_full, number_is}
use Rattle.automaton.proofs.Adding.{adds_unfit, adds_no_room, adds_more, next, key_here, tree_of, pushes_here}
use Rattle.automaton.proofs.labeller.AutomatonLabeller.add.Goals as goal

pub returns-in_err-check-clause-fixed : goal.returns-in_err-check-clause-fixed
returns-in_err-check-clause-fixed g c = record { grammar = refl; nodes = refl; keys = refl; rows = refl }

pub returns-in_err-check-clause-adds : goal.returns-in_err-check-clause-adds
returns-in_err-check-clause-adds g c h l =
    let a = c.args.self.now in
    let ops = c.operators.ensures ∙ ap (λ (z : Lists g.row.C.Denot). z.operators) c.declarations-declarations.ensures.lists in
    let e = err_from_is_err_and c.from_residual.result c.from_residual.ensures.1 in
    let f = c.in_err-check.field-0.0 in
    adds_unfit g.met.C.Cost.laws a h l (node_of c.args.node) f (check_some a h c.args.node _ ops l.nodes f c.in_err-check.ensures.answer) (add_answer c.from_residual.result) (ap add_answer e.1 ∙ ap (λ y. add_answer (Err y)) e.2)

pub returns-in_err-check-clause-means : goal.returns-in_err-check-clause-means
returns-in_err-check-clause-means g c μ h = automaton_adds g.C.Cost.model c.args.self.now μ h _ (returns-in_err-check-clause-fixed g c) (node_of c.args.node) _ (returns-in_err-check-clause-adds g c h.history h.lived)

pub returns-in_err-label-clause-fixed : goal.returns-in_err-label-clause-fixed
returns-in_err-label-clause-fixed g c = record { grammar = refl; nodes = refl; keys = c.in_err-label.ensures.limits.most_keys; rows = c.in_err-label.ensures.limits.most_rows }

pub returns-in_err-label-clause-adds : goal.returns-in_err-label-clause-adds
returns-in_err-label-clause-adds g c h l =
    let laws = g.met.C.Cost.laws in
    let m = g.C.Cost.model in
    let a = c.args.self.now in
    let lists = c.declarations-declarations.ensures.lists in
    let ops = c.operators.ensures ∙ ap (λ (z : Lists g.row.C.Denot). z.operators) lists in
    let rules = c.rules.ensures ∙ ap (λ (z : Lists g.row.C.Denot). z.rules) lists in
    let e = err_from_is_err_and c.from_residual-in_err-label.result c.from_residual-in_err-label.ensures.1 in
    let x = node_of c.args.node in
    let passed = check_none a h c.args.node _ ops l.nodes c.in_ok-check.ensures.answer in
    let gives = c.in_err-label.ensures.gives (grammar_of a) (accepted h) (tree_of laws a h l x passed).0 l.knows (sym rules) (next laws a h l x passed) (c.key-key.ensures ∙ ap (λ z. key_by z x.top) l.labels ∙ key_here laws a h l x passed) in
    adds_no_room laws a h l x passed c.in_err-label.field-0.0 _ refl refl gives (add_answer c.from_residual-in_err-label.result) (ap add_answer e.1 ∙ ap (λ y. add_answer (Err y)) e.2)

pub returns-in_err-label-clause-means : goal.returns-in_err-label-clause-means
returns-in_err-label-clause-means g c μ h = automaton_adds g.C.Cost.model c.args.self.now μ h _ (returns-in_err-label-clause-fixed g c) (node_of c.args.node) _ (returns-in_err-label-clause-adds g c h.history h.lived)

pub returns-in_err-number-clause-fixed : goal.returns-in_err-number-clause-fixed
returns-in_err-number-clause-fixed g c = record { grammar = refl; nodes = c.push.ensures.kept.most; keys = c.in_ok-label.ensures.limits.most_keys; rows = c.in_ok-label.ensures.limits.most_rows }

pub returns-in_err-number-clause-adds : goal.returns-in_err-number-clause-adds
returns-in_err-number-clause-adds g c h l =
    let laws = g.met.C.Cost.laws in
    let m = g.C.Cost.model in
    let a = c.args.self.now in
    let ops = c.operators.ensures ∙ ap (λ (z : Lists g.row.C.Denot). z.operators) c.declarations-declarations.ensures.lists in
    let x = node_of c.args.node in
    let passed = check_none a h c.args.node _ ops l.nodes c.in_ok-check.ensures.answer in
    let p = pushes_here laws a h l x passed c.push.new.self _ c.push.result c.push.ensures.pushed in
    absurd (never_full c.push.result _ c.in_err-number.field-0.0 _ c.in_err-number.ensures.value p.answer)

pub returns-in_err-number-clause-means : goal.returns-in_err-number-clause-means
returns-in_err-number-clause-means g c μ h = automaton_adds g.C.Cost.model c.args.self.now μ h _ (returns-in_err-number-clause-fixed g c) (node_of c.args.node) _ (returns-in_err-number-clause-adds g c h.history h.lived)

pub returns-clause-fixed : goal.returns-clause-fixed
returns-clause-fixed g c = record { grammar = refl; nodes = c.push.ensures.kept.most; keys = c.in_ok-label.ensures.limits.most_keys; rows = c.in_ok-label.ensures.limits.most_rows }

pub returns-clause-adds : goal.returns-clause-adds
returns-clause-adds g c h l =
    let laws = g.met.C.Cost.laws in
    let m = g.C.Cost.model in
    let a = c.args.self.now in
    let lists = c.declarations-declarations.ensures.lists in
    let ops = c.operators.ensures ∙ ap (λ (z : Lists g.row.C.Denot). z.operators) lists in
    let rules = c.rules.ensures ∙ ap (λ (z : Lists g.row.C.Denot). z.rules) lists in
    let x = node_of c.args.node in
    let passed = check_none a h c.args.node _ ops l.nodes c.in_ok-check.ensures.answer in
    let gives = c.in_ok-label.ensures.gives (grammar_of a) (accepted h) (tree_of laws a h l x passed).0 l.knows (sym rules) (next laws a h l x passed) (c.key-key.ensures ∙ ap (λ z. key_by z x.top) l.labels ∙ key_here laws a h l x passed) in
    let p = pushes_here laws a h l x passed c.push.new.self _ c.push.result c.push.ensures.pushed in
    let number = number_is c.push.result _ c.in_ok-number.number _ c.in_ok-number.ensures.value p.answer in
    adds_more laws a h l x passed c.in_ok-label.label.0 _ refl c.push.ensures.kept.most gives c.push.result p _ (ap (λ n. Ok (n, Some c.in_ok-label.label.0)) (number ∙ ap length l.nodes))

pub returns-clause-means : goal.returns-clause-means
returns-clause-means g c μ h = automaton_adds g.C.Cost.model c.args.self.now μ h _ (returns-clause-fixed g c) (node_of c.args.node) _ (returns-clause-adds g c h.history h.lived)
