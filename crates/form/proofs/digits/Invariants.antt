use Rattle.std.proofs.Common.{◌≡◌, ◌^◌, ◌<◌, drop}
use Rattle.form.specs.Numbers.{digits_from}
use Rattle.form.proofs.digits.Given as goal

abbrev pub invariant-loop-byte : goal.invariant-loop-byte
invariant-loop-byte l = (l.n < 10 ^ l.byte-index) × (digits_from l.n (drop l.byte-index l.text) ≡ digits_from 0 l.text)
