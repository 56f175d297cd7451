-- The make of cost that is an amount of energy.
use Rattle.std.specs.Prelude.{ℤ, pos, ◌+ℤ◌, ◌-ℤ◌, unsigned_abs}
use Rattle.std.specs.Int.{saturate_to_bits}
use Rattle.cost.specs.Model.{Model}
use Rattle.cost_example.specs.declared.Energy.{Energy}
use Rattle.std.specs.Ordering.{int_cmp}

-- z units of energy
abbrev pub energy : ℤ → Energy
energy z = record { units = z }

-- amounts add and subtract as their numbers do, held within 32 signed bits, and weigh their absolute values
abbrev pub energy_model : Model Energy
energy_model = record {
  zero = energy (pos 0);
  sum = λ a b. energy (saturate_to_bits 31 (a.units +ℤ b.units));
  diff = λ a b. energy (saturate_to_bits 31 (a.units -ℤ b.units));
  cmp = λ a b. int_cmp a.units b.units;
  weight = λ a. unsigned_abs a.units;
}
