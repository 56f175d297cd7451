use Rattle.std.proofs.Common.{◌≡◌, ◌+◌, ◌++◌, drop, vec_items}
use Rattle.grammar.specs.Meaning.{declared_lists}
use Rattle.inspection.specs.Inspections.{lines_text}
use Rattle.inspection.proofs.inspecting.push_lines.Given as goal

-- what is written and the lines to come are the whole
abbrev pub invariant-loop-i : goal.invariant-loop-i
invariant-loop-i g l =
    vec_items l.text ++ lines_text (g.T.Listed.written (declared_lists l.declarations)) (l.first + l.i) (drop l.i l.items)
    ≡ vec_items l.initial.text ++ lines_text (g.T.Listed.written (declared_lists l.declarations)) l.first l.items
