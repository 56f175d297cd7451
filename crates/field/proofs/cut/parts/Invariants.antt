use Rattle.std.proofs.Common.{◌≡◌, ◌+◌, ◌≤◌, length, drop}
use Rattle.field.specs.Bytes.{split_at}
use Rattle.field.proofs.cut.parts.Given as goal

abbrev pub invariant-loop-byte : goal.invariant-loop-byte
invariant-loop-byte l = (l.n ≤ l.byte-index + 1) × (l.n + length (split_at l.mark (drop l.byte-index l.text)) ≡ 1 + length (split_at l.mark l.text))
