use Rattle.std.proofs.Common.{◌∙◌}
use Rattle.table.specs.Tables.{keys_of}
use Rattle.rows.specs.Stored.{row_back}
use Rattle.rows.proofs.Reading.{row_stored}
use Rattle.rows.proofs.held.Rows.row.Goals as goal

pub returns : goal.returns
returns g c =
    let v = c.args.self.now in
    (λ i. row_back (c.stored_slots.ensures i) v.width (c.end.ensures i)) ∙ row_stored v.width (keys_of v.entries) (keys_of v.ends) c.args.label
