-- The laws of `energy_model`: those of integers, carried over to amounts of energy.
use Rattle.std.specs.Prelude.{◌≡◌, ◌<◌, ℤ, pos, negsuc, unsigned_abs, refl}
use Rattle.std.proofs.Common.{ap, arith}
use Rattle.std.specs.Int.{saturate_to_bits}
use Rattle.cost.specs.Model.{Laws}
use Rattle.cost.specs.Carried.{carried_laws}
use Rattle.cost.specs.NumberLaws.{number_laws}
use Rattle.cost_example.specs.Energies.{energy, energy_model}

-- what fits is left as it is
saturated_is : (z : ℤ) → unsigned_abs z < 2147483648 → saturate_to_bits 31 z ≡ z
saturated_is (pos n) h = ap pos (omega arith)
saturated_is (negsuc n) h = ap negsuc (omega arith)

pub energy_laws : Laws energy_model
energy_laws = carried_laws energy (λ e. e.units) (λ z. refl) (λ e. refl) (number_laws (saturate_to_bits 31) saturated_is)
