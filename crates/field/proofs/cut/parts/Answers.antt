use Rattle.std.proofs.Common.{◌+◌, length, get_or, drop, arith}
use Rattle.std.proofs.lemmas.List.{at_drop_more, at_drop_all}
use Rattle.std.proofs.lemmas.Bool.Decides.{nat_tests}
use Rattle.field.specs.Bytes.{split_at}
use Rattle.field.proofs.Splits.{parts_more}
use Rattle.field.proofs.cut.parts.Goals as goal

pub loop-byte-preserved : goal.loop-byte-preserved
loop-byte-preserved c =
    let e = at_drop_more (λ xs. length (split_at c.args.mark xs)) c.args.text.now c.loop-byte.byte-index 0 (omega arith) in
    let p = parts_more c.args.mark (get_or c.args.text.now c.loop-byte.byte-index 0) (drop (c.loop-byte.byte-index + 1) c.args.text.now) in
    (grind (arith, nat_tests), grind (arith, nat_tests))

pub returns : goal.returns
unfolding split_at
returns c =
    let e = at_drop_all (λ xs. length (split_at c.args.mark xs)) c.args.text.now c.loop-byte.byte-index (omega arith) in
    omega arith
