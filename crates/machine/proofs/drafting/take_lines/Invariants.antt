use Rattle.std.proofs.Common.{◌≡◌}
use Rattle.grammar.specs.Meaning.{draft_lists}
use Rattle.machine.specs.Files.{all_taken}
use Rattle.machine.proofs.drafting.take_lines.Given as goal

-- the lines that are left do to the draft what all lines do to the draft at entry
abbrev pub invariant-loop-part : goal.invariant-loop-part
invariant-loop-part g l =
    all_taken g.C.Cost.model g.C.Tariff.priced (draft_lists l.draft) l.part-iterator ≡ all_taken g.C.Cost.model g.C.Tariff.priced (draft_lists l.fn.draft) l.fn.lines
