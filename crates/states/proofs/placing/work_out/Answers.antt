use Rattle.std.proofs.Common.{◌≡◌, [], get_or, unwrap_or, ap, ◌∙◌, rules}
use Rattle.covers.specs.Ranks.{best_of}
use Rattle.covers.specs.Rows.{row_of as row_above}
use Rattle.row.specs.Views.{applied, costs_of}
use Rattle.applied.specs.Kids.{first_in, second_in}
use Rattle.nodes.specs.declared.Label.{Label}
use Rattle.rows.specs.Kids.{row_of}
use Rattle.rows.specs.Meaning.{rows_of}
use Rattle.states.proofs.Working.{kids_ranks, no_label}
use Rattle.states.proofs.placing.work_out.Goals as goal

pub returns : goal.returns
returns g c G d r e =
    let held = rows_of c.args.rows.now in
    let m = g.C.Cost.model in
    let given : c.unwrap_or.result ≡ unwrap_or (first_in c.args.key) no_label = search rules in
    let given-2 : c.unwrap_or-2.result ≡ unwrap_or (second_in c.args.key) no_label = search rules in
    let first : row_of c.row-first.result ≡ get_or held (unwrap_or (first_in c.args.key) no_label).0 [] = c.row-first.ensures ∙ ap (λ (l : Label). get_or held l.0 []) given in
    let second : row_of c.row-second.result ≡ get_or held (unwrap_or (second_in c.args.key) no_label).0 [] = c.row-second.ensures ∙ ap (λ (l : Label). get_or held l.0 []) given-2 in
    c.row_into.ensures G d r e
    ∙ ap (λ z. row_above m (best_of m G (applied (λ k. costs_of (row_of k)) z))) c.over-kids.ensures
    ∙ ap (λ z. row_above m (best_of m G z)) (kids_ranks held c.args.key _ _ first second)
