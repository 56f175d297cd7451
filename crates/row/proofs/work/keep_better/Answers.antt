use Rattle.std.proofs.Common.{◌<◌, ◌≡◌, length, get_or, sym, ◌∙◌, rules}
use Rattle.row.proofs.Keeping.{keep_takes}
use Rattle.row.proofs.work.keep_better.Goals as goal

pub returns-in-Some-clause-made : goal.returns-in-Some-clause-made
returns-in-Some-clause-made g c =
    let old = c.in-Some.old.now in
    let within : c.args.n < length c.args.work.now = search rules in
    let held : old ≡ get_or c.args.work.now c.args.n old = search rules in
    keep_takes g.C.Cost.model c.args.work.now c.args.n c.args.new old within held (sym c.is_better.ensures ∙ c.if-is_better.true)
