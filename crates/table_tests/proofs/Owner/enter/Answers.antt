use Rattle.std.proofs.Common.{rules}
use Rattle.std.proofs.lemmas.List.{set_past}
use Rattle.table_tests.proofs.Owner.enter.Goals as goal

pub returns-else-place-self-clause-labels : goal.returns-else-place-self-clause-labels
returns-else-place-self-clause-labels g c = search (rules, set_past)
