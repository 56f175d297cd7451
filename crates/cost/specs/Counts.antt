-- The make of cost that is one signed number of 32 bits.
use Rattle.std.specs.Prelude.{cond, ℤ, pos, ◌+ℤ◌, ◌-ℤ◌, nat_lt, unsigned_abs}
use Rattle.std.specs.Int.Signed.{mag}
use Rattle.cost.specs.Model.{Model}
use Rattle.cost.specs.declared.Count.{Count}
use Rattle.std.specs.Ordering.{int_cmp}

-- the count of the number z
abbrev pub count : ℤ → Count
count z = record { value = z }

-- z where it fits 32 signed bits, and 0 where it does not; mag is n both at n and at -(n + 1)
abbrev pub fitted : ℤ → ℤ
fitted z = cond (nat_lt (mag z) 2147483648) z (pos 0)

-- counts add, subtract and compare as their numbers do, and weigh their absolute values
abbrev pub count_model : Model Count
count_model = record {
  zero = count (pos 0);
  sum = λ a b. count (fitted (a.value +ℤ b.value));
  diff = λ a b. count (fitted (a.value -ℤ b.value));
  cmp = λ a b. int_cmp a.value b.value;
  weight = λ a. unsigned_abs a.value;
}
