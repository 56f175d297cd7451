use Rattle.std.proofs.Common.{◌≡◌, sym, ap, ◌∙◌, rules}
use Rattle.covers.specs.Ranks.{at}
use Rattle.label.specs.Views.{rule_number}
use Rattle.plain.proofs.RowRules.{rule_entry, at_rule}
use Rattle.plain.proofs.kept.rule_at.Goals as goal

pub returns : goal.returns
returns g c =
    let ws = c.args.places.now in
    let place : c.flatten-place.result ≡ at ws c.args.n = search rules in
    let rule : rule_number c.map.result ≡ rule_entry c.flatten-place.result = search rules in
    rule ∙ ap rule_entry place ∙ sym (at_rule ws c.args.n)
