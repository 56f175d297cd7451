use Rattle.table.proofs.Links.{links_in}
use Rattle.table.proofs.link.Goals as goal

pub returns : goal.returns
returns g c =
    links_in c.args.slots.now c.args.place c.args.bucket c.args.key c.index-slots-place.result
    c.index-slots-bucket.result c.index-slots-bucket-2.result c.requires.0 c.requires.1.1
