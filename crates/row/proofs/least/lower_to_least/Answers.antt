use Rattle.std.proofs.Common.{map, ap, ◌∙◌}
use Rattle.covers.specs.Rows.{entry, cost_entry}
use Rattle.row.specs.Views.{kept_of}
use Rattle.row.proofs.Lowering.{lower_all}
use Rattle.row.proofs.least.lower_to_least.Goals as goal

pub returns : goal.returns
returns g c =
    let m = g.C.Cost.model in
    let xs = map kept_of c.args.work.now in
    ap (map cost_entry) c.lower_by.ensures ∙ lower_all m c.least_or_zero-least.result xs ∙ ap (λ f. map (entry m f) xs) c.least_or_zero-least.ensures
