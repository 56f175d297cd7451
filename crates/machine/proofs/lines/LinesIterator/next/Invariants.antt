use Rattle.std.proofs.Common.{◌≡◌, length}
use Rattle.field.specs.Readers.{to_come, next_place}
use Rattle.machine.specs.Files.{numbered}
use Rattle.machine.proofs.lines.LinesIterator.next.Given as goal

abbrev pub invariant-loop-part : goal.invariant-loop-part
invariant-loop-part l =
    numbered (next_place l.self-inside.reader) (to_come l.self-inside.reader)
    ≡ numbered (next_place l.initial.self-inside.reader) (to_come l.initial.self-inside.reader)

abbrev pub decreases-loop-part : goal.decreases-loop-part
decreases-loop-part l = length (to_come l.self-inside.reader)
