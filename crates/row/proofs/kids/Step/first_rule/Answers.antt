use Rattle.std.proofs.Common.{◌≡◌, rules, tests}
use Rattle.std.specs.List.{position}
use Rattle.std.proofs.lemmas.Iterator.{YieldsList-from_slice}
use Rattle.std.proofs.lemmas.Iterator.Search.{position_from_yields_List}
use Rattle.grammar.specs.Views.{rule_of}
use Rattle.covers.specs.Ranks.{offers}
use Rattle.row.specs.Ranked.{ranks_in}
use Rattle.row.specs.Views.{applied}
use Rattle.row.proofs.Firsts.{first_at}
use Rattle.row.proofs.kids.Step.first_rule.Goals as goal

pub returns : goal.returns
returns g c few =
    let f = offers g.K.Cost.Cost.model (applied g.K.KidRow.costs c.args.self.now.kids) (ranks_in c.args.work.now) c.args.n (c.args.best.now.cost, c.args.best.now.chains) in
    let ks = c.args.self.now.rules.now in
    let place : c.position.result ≡ position (λ k. f (rule_of k)) ks = position_from_yields_List (λ k. f (rule_of k)) _ _ c.position.result c.position.ensures.ran (YieldsList-from_slice ks (cc)) (λ x b q k. search (rules, tests)) in
    first_at f ks c.position.result c.map_or.result.0 place (search rules)
