use Rattle.std.proofs.Common.{◌≡◌, sym, ap, ◌∙◌, rules}
use Rattle.std.specs.Option.{option_map}
use Rattle.covers.specs.Ranks.{at}
use Rattle.covers.specs.Rows.{cost_entry}
use Rattle.row.specs.Views.{kept_of}
use Rattle.row.proofs.Costs.{at_costs}
use Rattle.plain.proofs.kept.KeptRowKidRow.cost_at.Goals as goal

pub returns : goal.returns
returns g c =
    let ws = c.args.self.now.places.now in
    let place : c.flatten-place.result ≡ at ws c.args.n = search rules in
    let cost : c.map.result ≡ option_map (λ e. e.1) (cost_entry (kept_of c.flatten-place.result)) = search rules in
    cost ∙ ap (λ z. option_map (λ e. e.1) (cost_entry (kept_of z))) place ∙ sym (at_costs ws c.args.n)
