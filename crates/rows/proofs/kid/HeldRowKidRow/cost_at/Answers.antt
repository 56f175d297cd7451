use Rattle.std.proofs.Common.{rules, ◌≡◌, ℕ, sym, refl, ap, ◌∙◌}
use Rattle.std.specs.Option.{option_map}
use Rattle.covers.specs.Ranks.{at}
use Rattle.covers.proofs.Shifts.{at_map}
use Rattle.entries.specs.Keys.{stands}
use Rattle.rows.specs.Stored.{keys_in, row_back}
use Rattle.rows.specs.Kids.{row_of}
use Rattle.rows.proofs.kid.HeldRowKidRow.cost_at.Goals as goal

pub returns : goal.returns
returns g c =
    let k = c.args.self.now in
    let cost : c.map.result ≡ option_map (λ (e : ℕ × g.row.C.Denot). e.1) (stands c.choice_back.result) = search rules in
    cost ∙ ap (option_map (λ (e : ℕ × g.row.C.Denot). e.1)) (c.choice_back.ensures ∙ ap (λ o. at (row_back (keys_in k.entries.now) k.width o) c.args.n) (sym c.in_ok-end.was))
    ∙ sym (at_map (option_map (λ (e : ℕ × g.row.C.Denot). e.1)) refl (row_of k) c.args.n)
