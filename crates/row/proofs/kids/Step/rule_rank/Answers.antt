use Rattle.std.proofs.Common.{◌≡◌, map, ◌∙◌, rules}
use Rattle.std.specs.Option.{option_or}
use Rattle.grammar.specs.Views.{form_of}
use Rattle.covers.specs.Ranks.{base_offer}
use Rattle.row.specs.Kept.{over_source}
use Rattle.row.specs.Views.{kept_of, applied}
use Rattle.row.proofs.Erasing.{either_is_offer}
use Rattle.row.proofs.kids.Step.rule_rank.Goals as goal

pub returns : goal.returns
returns g c few =
    let m = g.K.Cost.Cost.model in
    let s = applied g.K.KidRow.costs c.args.self.now.kids in
    let cost = c.args.rule.now.cost in
    let form = form_of c.args.rule.now.form in
    let e : c.or.result ≡ option_or (base_offer m s cost form) (over_source m (map kept_of c.args.work.now) cost form) = search rules in
    e ∙ either_is_offer m s (map kept_of c.args.work.now) cost form few
