use Rattle.std.proofs.Common.{rules, ◌≡◌, ℕ, [], get_or, sym, ap, ◌∙◌}
use Rattle.std.specs.Option.{option_map}
use Rattle.covers.specs.Ranks.{at}
use Rattle.covers.specs.Rows.{row}
use Rattle.covers.specs.Held.{rows_held}
use Rattle.label.specs.Views.{rule_number}
use Rattle.entries.specs.Keys.{stands}
use Rattle.states.proofs.Growth.{labelled_row}
use Rattle.states.proofs.Choosing.{row_rule}
use Rattle.states.proofs.states.States.choice.Goals as goal

pub returns : goal.returns
returns g c G ts t k h e =
    let m = g.C.Cost.model in
    let n = c.args.nonterminal.0 in
    let rule : rule_number c.map.result ≡ option_map (λ (x : ℕ × g.row.C.Denot). x.0) (stands c.entry.result) = search rules in
    let is : get_or (rows_held m G ts) c.args.label.0 [] ≡ row m G t = ap (λ z. get_or (rows_held m G ts) z []) e ∙ sym (labelled_row g.met.C.Cost.laws k.sealed ts t h) in
    rule ∙ ap (option_map (λ (x : ℕ × g.row.C.Denot). x.0)) (c.entry.ensures ∙ ap (λ z. at (get_or z c.args.label.0 []) n) k.rows ∙ ap (λ z. at z n) is) ∙ row_rule m G t n
