use Rattle.covers.proofs.Labels.{label_stays, key_stays, rows_more, keys_more}
use Rattle.covers.proofs.labels_stay.Goals as goal

pub returns : goal.returns
returns g c G ts us a =
    let l = g.met.C.Cost.laws in
    record { labels = label_stays l G ts us; keys = key_stays l G ts us a; rows_held_more = rows_more l G ts us; keys_held_more = keys_more l G ts us a }
