use Rattle.std.proofs.Common.{ℕ, suc}
use Rattle.std.specs.Option.{option_map, unwrap_or}
use Rattle.table.specs.Search.{Walk}
use Rattle.table.proofs.Table.search.Given as goal

abbrev pub invariant-loop-link : goal.invariant-loop-link
invariant-loop-link g l = (bound : ℕ) × Walk g.K.Key.model l.self l.key bound l.link

abbrev pub decreases-loop-link : goal.decreases-loop-link
decreases-loop-link g l = unwrap_or (option_map suc l.link) 0
