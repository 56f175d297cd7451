use Rattle.std.proofs.Common.{None, ◌∙◌, rules, tests}
use Rattle.std.proofs.lemmas.Iterator.Adapters.{YieldsList-from_rev_slice}
use Rattle.std.proofs.lemmas.Iterator.Consumers.{fold_from_yields_List}
use Rattle.row.proofs.Lowering.{lesser_of, least_back}
use Rattle.row.proofs.least.least_cost.Goals as goal

pub returns : goal.returns
returns g c = fold_from_yields_List _ (lesser_of g.C.Cost.model) None c.fold.result c.fold.ensures.ran (YieldsList-from_rev_slice c.args.work.now (cc)) (λ a x b q k. search (rules, tests)) ∙ least_back g.C.Cost.model c.args.work.now
