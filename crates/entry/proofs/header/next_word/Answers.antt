use Rattle.std.proofs.Common.{arith}
use Rattle.field.specs.Readers.{rest}
use Rattle.entry.proofs.header.next_word.Goals as goal

pub returns-clause-after : goal.returns-clause-after
unfolding rest
returns-clause-after c = grind (arith, c.next_field.ensures)
