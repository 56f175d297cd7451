-- Costs made of cycles and bytes.
use Rattle.std.specs.Prelude.{ℕ, pos}
use Rattle.cost.specs.Counts.{count, fitted}
use Rattle.cost.specs.Pairs.{pair}
use Rattle.cost.specs.declared.Count.{Count}
use Rattle.cost.specs.declared.Pair.{Pair}

-- the count of a number
abbrev pub counted : ℕ → Count
counted n = count (fitted (pos n))

-- a cost that counts cycles before bytes
abbrev pub cycles_first : ℕ → ℕ → Pair Count Count
cycles_first cycles bytes = pair (counted cycles) (counted bytes)
