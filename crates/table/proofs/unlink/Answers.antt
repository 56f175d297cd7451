use Rattle.std.proofs.Common.{refl, arith}
use Rattle.table.proofs.Chains.{heads_more, chained_none}
use Rattle.table.proofs.unlink.Goals as goal

pub loop-slot-preserved : goal.loop-slot-preserved
loop-slot-preserved g c = heads_more c.loop-slot.slots c.loop-slot.slot-index _ (omega arith) refl c.loop-slot.invariant

pub returns : goal.returns
returns g c = chained_none g.K.Key.model c.loop-slot.slots (λ d b l. c.loop-slot.invariant d b (omega arith))
