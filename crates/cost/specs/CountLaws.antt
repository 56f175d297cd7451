-- The laws of `count_model`: those of integers, carried over to counts.
use Rattle.std.specs.Prelude.{◌≡◌, ◌<◌, ℤ, pos, negsuc, unsigned_abs, refl}
use Rattle.std.proofs.Common.{arith}
use Rattle.std.proofs.lemmas.Bool.{lt-ltb}
use Rattle.cost.specs.Model.{Laws}
use Rattle.cost.specs.Counts.{count, fitted, count_model}
use Rattle.cost.specs.Carried.{carried_laws}
use Rattle.cost.specs.NumberLaws.{number_laws}

-- what fits is left as it is
fitted_is : (z : ℤ) → unsigned_abs z < 2147483648 → fitted z ≡ z
fitted_is (pos n) h = grind (arith, lt-ltb)
fitted_is (negsuc n) h = grind (arith, lt-ltb)

pub count_laws : Laws count_model
count_laws = carried_laws count (λ c. c.value) (λ z. refl) (λ c. refl) (number_laws fitted fitted_is)
