use Rattle.std.proofs.Common.{◌≡◌, ◌+◌, ◌∙◌, ap, rules, arith}
use Rattle.std.proofs.lemmas.Option.{gets}
use Rattle.std.specs.List.{slice_get}
use Rattle.grammar.specs.Lists.{Lists}
use Rattle.grammar.specs.Views.{rule_of}
use Rattle.label.proofs.Reading.{numbered_rule}
use Rattle.label.proofs.questions.rule_numbered.Goals as goal

pub returns : goal.returns
returns g c =
    let next : c.in_ok-place.place + 1 ≡ c.args.number.0 = search rules in
    let found : c.copied.result ≡ slice_get c.rules-rules.result.now c.in_ok-place.place = grind (arith, gets) in
    numbered_rule rule_of c.rules-rules.result.now _ (c.rules-rules.ensures ∙ ap (λ (z : Lists g.row.C.Denot). z.rules) c.declarations.ensures.lists) c.args.number.0 c.in_ok-place.place c.copied.result next found
