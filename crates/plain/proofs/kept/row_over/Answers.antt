use Rattle.std.proofs.Common.{map, length, ap, ◌∙◌, arith}
use Rattle.covers.specs.Ranks.{best_of}
use Rattle.covers.specs.Rows.{cost_entry}
use Rattle.row.specs.Views.{applied}
use Rattle.plain.proofs.Over.{RowOf, costs_in, rows_of_kids}
use Rattle.plain.proofs.kept.row_over.Goals as goal

pub returns : goal.returns
returns g c k G d r e =
    let m = g.C.Cost.model in
    let rows = c.args.rows.now in
    let n = length c.args.row.now in
    let first : RowOf rows n _ c.kept_row-first.result = λ a h. c.kept_row-first.ensures a (c.first.ensures ∙ h) in
    let second : RowOf rows n _ c.kept_row-second.result = λ a h. c.kept_row-second.ensures a (c.second.ensures ∙ h) in
    ap (map cost_entry) (
    c.best_into.ensures G d r (omega arith)
    ∙ ap (λ z. best_of m G (applied (costs_in rows n) z)) c.kids_over-kids.ensures
    ∙ ap (best_of m G) (rows_of_kids rows n c.args.node.now.top _ _ first second k)
    )
