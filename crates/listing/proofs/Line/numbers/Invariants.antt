use Rattle.std.proofs.Common.{◌≡◌, ◌≤◌, map, length, take}
use Rattle.std.specs.Fmt.{signed_decimal}
use Rattle.listing.specs.Fields.{with_fields, line_bytes}
use Rattle.listing.proofs.Line.numbers.Given as goal

-- the first numbers are written, and at the end all of them
abbrev pub invariant-loop-n : goal.invariant-loop-n
invariant-loop-n l =
    (line_bytes l.line ≡ with_fields (line_bytes l.initial.line) (map signed_decimal (take l.n-index l.numbers)))
    × (length l.numbers ≤ l.n-index → line_bytes l.line ≡ with_fields (line_bytes l.initial.line) (map signed_decimal l.numbers))
