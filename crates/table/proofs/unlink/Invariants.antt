use Rattle.std.proofs.Common.{◌≡◌, ℕ, ◌<◌, get_or, None}
use Rattle.table.proofs.unlink.Given as goal

abbrev pub invariant-loop-slot : goal.invariant-loop-slot
invariant-loop-slot g l = (d : _) (b : ℕ) → b < l.slot-index → (get_or l.slots b d).head ≡ None
