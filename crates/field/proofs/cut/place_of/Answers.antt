use Rattle.std.proofs.Common.{rules, tests, arith}
use Rattle.std.proofs.lemmas.Bool.Decides.{nat_tests}
use Rattle.std.proofs.lemmas.List.Sums.{prefix_len-le-length}
use Rattle.std.proofs.lemmas.Iterator.{YieldsList-from_slice}
use Rattle.std.proofs.lemmas.Iterator.Search.{position_from_yields_List}
use Rattle.std.specs.Prelude.{not, ◌==◌}
use Rattle.field.specs.Bytes.{place_of}
use Rattle.field.proofs.cut.place_of.Goals as goal

pub returns : goal.returns
unfolding place_of
returns c =
    let first = position_from_yields_List (λ x. x == c.args.mark) _ _ c.position-first.result c.position-first.ensures.ran (YieldsList-from_slice c.args.text.now cc) (λ x b q k. search (rules, tests)) in
    let within = prefix_len-le-length (λ x. not (x == c.args.mark)) c.args.text.now in
    grind (arith, nat_tests)
