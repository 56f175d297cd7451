use Rattle.std.proofs.Common.{◌++◌, vec_items, ap, ◌∙◌}
use Rattle.grammar.specs.Meaning.{declared_lists}
use Rattle.inspection.specs.Inspections.{ended, grammar_text}
use Rattle.inspection.proofs.Writing.{all_written}
use Rattle.inspection.proofs.inspecting.grammar_text.Goals as goal

pub returns : goal.returns
returns g c =
    let counts = c.deref.ensures.value ∙ c.in_ok-ended.ensures ∙ ap ended c.in_ok-counts.ensures in
    let last = c.in_ok-extend_from_slice.ensures.items ∙ ap (λ x. vec_items c.push_lines-3.new.text ++ x) counts in
    all_written g.C.Figures.figures (declared_lists c.declarations-declarations.result.now) c.operators-operators.result.now c.nonterminals-nonterminals.result.now c.rules-rules.result.now _ _ _ _ _ c.operators-operators.ensures c.nonterminals-nonterminals.ensures c.rules-rules.ensures c.new-text.ensures.items c.in_ok-push_lines.ensures c.in_ok-push_lines-2.ensures c.in_ok-push_lines-3.ensures last ∙ ap (grammar_text g.C.Figures.figures) c.declarations-declarations.ensures.lists
