use Rattle.std.proofs.Common.{ap}
use Rattle.covers.specs.Held.{same_row, place, rows_held}
use Rattle.covers.proofs.Labels.{label_row, label_at, rows_count, keys_count}
use Rattle.covers.proofs.labels_are_right.Goals as goal

pub returns : goal.returns
returns g c G ts =
    let m = g.C.Cost.model in
    let l = g.met.C.Cost.laws in
    record { same = λ t u h k. (label_row l G ts t u h k, λ e. ap (place (same_row m) (rows_held m G ts)) e); stands = label_at l G ts; rows = rows_count l G ts; keys = keys_count l G ts }
