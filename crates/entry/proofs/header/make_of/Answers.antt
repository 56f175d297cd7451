use Rattle.std.proofs.Common.{◌≡◌, codes, rules, arith}
use Rattle.std.proofs.lemmas.Slice.Eq.{text_from_reads}
use Rattle.entry.proofs.header.make_of.Goals as goal

pub returns-in-cycles : goal.returns-in-cycles
returns-in-cycles c =
    let e : c.args.word.now ≡ codes "cycles" = text_from_reads _ _ (omega arith) (search rules) in
    rw e
