use Rattle.std.proofs.Common.{arith}
use Rattle.entry.proofs.Kids.{kids_small}
use Rattle.entry.proofs.lines.operator_entry.Goals as goal

pub overflow_cast-kids : goal.overflow_cast-kids
overflow_cast-kids c = let small = kids_small _ _ _ c.in_ok-kids.ensures.value in omega arith
