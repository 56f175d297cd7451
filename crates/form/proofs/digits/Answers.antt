use Rattle.std.proofs.Common.{◌≡◌, ◌+◌, ◌*◌, ◌^◌, ◌≤◌, add-one, arith}
use native.Mathlib.Nat.{pow-le-pow_right, pow-succ'}
use Rattle.std.proofs.lemmas.List.{at_drop_more, at_drop_all}
use Rattle.std.proofs.lemmas.Bool.Decides.{nat_tests}
use Rattle.form.specs.Numbers.{digits_from, digits_of}
use Rattle.form.proofs.digits.Goals as goal

pub returns-then-not-is_ascii_digit : goal.returns-then-not-is_ascii_digit
unfolding digits_from digits_of
returns-then-not-is_ascii_digit c =
    let e = at_drop_more (digits_from c.loop-byte.n) c.args.text.now c.loop-byte.byte-index 0 (omega arith) in
    record { value = grind (arith, nat_tests); bound = tt }

pub loop-byte-preserved : goal.loop-byte-preserved
unfolding digits_from digits_of
loop-byte-preserved c =
    let e = at_drop_more (digits_from c.loop-byte.n) c.args.text.now c.loop-byte.byte-index 0 (omega arith) in
    let p : 10 ^ (c.loop-byte.byte-index + 1) ≡ 10 * 10 ^ c.loop-byte.byte-index = rw (add-one, pow-succ') in
    (grind (arith, nat_tests), grind (arith, nat_tests))

pub returns : goal.returns
unfolding digits_from digits_of
returns c =
    let e = at_drop_all (digits_from c.loop-byte.n) c.args.text.now c.loop-byte.byte-index (omega arith) in
    let p : 10 ^ c.loop-byte.byte-index ≤ 10 ^ 10 = pow-le-pow_right {n = 10} (omega arith) {i = c.loop-byte.byte-index} {j = 10} (omega arith) in
    record { value = grind (arith, nat_tests); bound = omega arith }

pub returns-then-is_empty : goal.returns-then-is_empty
unfolding digits_of
returns-then-is_empty c = record { value = grind (arith, nat_tests); bound = tt }
