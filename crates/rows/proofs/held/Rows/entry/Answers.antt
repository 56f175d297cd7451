use Rattle.std.proofs.Common.{rules, ◌≡◌, None, ap, ◌∙◌}
use Rattle.covers.specs.Ranks.{at}
use Rattle.table.specs.Tables.{keys_of}
use Rattle.entries.specs.Keys.{stands}
use Rattle.rows.specs.Stored.{row_back}
use Rattle.rows.proofs.Reading.{row_stored}
use Rattle.rows.proofs.held.Rows.entry.Goals as goal

pub returns-in_err-end : goal.returns-in_err-end
returns-in_err-end g c =
    let v = c.args.self.now in
    let es = keys_of v.entries in
    let none : stands c.from_residual.result ≡ None = search rules in
    none ∙ ap (λ o. at (row_back es v.width o) c.args.n) c.in_err-end.ensures
    ∙ ap (λ x. at x c.args.n) (row_stored v.width es (keys_of v.ends) c.args.label)

pub returns : goal.returns
returns g c =
    let v = c.args.self.now in
    c.choice_back.ensures ∙ (λ i. at (row_back (c.stored_slots.ensures i) v.width (c.in_ok-end.ensures i)) c.args.n)
    ∙ ap (λ x. at x c.args.n) (row_stored v.width (keys_of v.entries) (keys_of v.ends) c.args.label)
