-- The laws of a make of cost whose values are integers, for any rule that leaves what fits as it is.
use Rattle.std.specs.Prelude.{◌≡◌, ◌+◌, ◌<◌, ◌≤◌, ℤ, pos, ◌+ℤ◌, ◌-ℤ◌, unsigned_abs, refl}
use Rattle.std.specs.declared.cmp.Ordering.TheVariants.{Less}
use Rattle.std.proofs.Common.{ap, ◌∙◌, arith}
use Rattle.std.proofs.Math.IntN.{+ℤ_comm, +ℤ_assoc}
use Rattle.std.proofs.lemmas.Int.{ints}
use Rattle.std.specs.Cmp.{int_cmp_total}
use Rattle.cost.specs.Model.{Model, Laws, limit}
use Rattle.std.specs.Ordering.{int_cmp}

sum_abs : (a b : ℤ) → unsigned_abs (a +ℤ b) ≤ unsigned_abs a + unsigned_abs b
sum_abs a b = omega (arith, ints)

diff_abs : (a b : ℤ) → unsigned_abs (a -ℤ b) ≤ unsigned_abs a + unsigned_abs b
diff_abs a b = omega (arith, ints)

-- fit z is what the make takes for the integer z: z itself, where it is small
module _ (fit : ℤ → ℤ) (fit_is : (z : ℤ) → unsigned_abs z < 2147483648 → fit z ≡ z) where
  -- the integers as a make of cost
  abbrev pub number_model : Model ℤ
  number_model = record {
    zero = pos 0;
    sum = λ a b. fit (a +ℤ b);
    diff = λ a b. fit (a -ℤ b);
    cmp = int_cmp;
    weight = unsigned_abs;
  }

  fit_sum : (a b : ℤ) → unsigned_abs a + unsigned_abs b ≤ limit → fit (a +ℤ b) ≡ a +ℤ b
  fit_sum a b h = fit_is (a +ℤ b) (omega (arith, sum_abs a b))

  fit_diff : (a b : ℤ) → unsigned_abs a + unsigned_abs b ≤ limit → fit (a -ℤ b) ≡ a -ℤ b
  fit_diff a b h = fit_is (a -ℤ b) (omega (arith, diff_abs a b))

  group : (a b c : ℤ) → unsigned_abs a + unsigned_abs b + unsigned_abs c ≤ limit → fit (fit (a +ℤ b) +ℤ c) ≡ fit (a +ℤ fit (b +ℤ c))
  group a b c h = rw (fit_sum a b (omega arith), fit_sum b c (omega arith)) (ap fit (+ℤ_assoc a b c))

  with_zero : (a : ℤ) → unsigned_abs a ≤ limit → fit (a +ℤ pos 0) ≡ a
  with_zero a h = ap fit (omega (arith, ints)) ∙ fit_is a (omega arith)

  back : (a b : ℤ) → unsigned_abs a + unsigned_abs b ≤ limit → fit (fit (a -ℤ b) +ℤ b) ≡ a
  back a b h = rw (fit_diff a b h) (ap fit (omega (arith, ints)) ∙ fit_is a (omega arith))

  keeps : (a b c : ℤ) → unsigned_abs a + unsigned_abs b + unsigned_abs c ≤ limit → int_cmp a b ≡ Less → int_cmp (fit (a +ℤ c)) (fit (b +ℤ c)) ≡ Less
  keeps a b c h e = rw (fit_sum a c (omega arith), fit_sum b c (omega arith)) (grind (arith, ints))

  pub number_laws : Laws number_model
  number_laws = record {
    cmp_flip = int_cmp_total.antisymm;
    cmp_chain = int_cmp_total.trans;
    cmp_same = λ a b e. grind (arith, ints);
    sum_swap = λ a b h. ap fit (+ℤ_comm a b);
    sum_group = group;
    sum_zero = with_zero;
    diff_sum = back;
    sum_keeps = keeps;
    zero_weight = refl;
    sum_weight = λ a b h. rw (fit_sum a b h) (sum_abs a b);
    diff_weight = λ a b h. rw (fit_diff a b h) (diff_abs a b);
  }
