use Rattle.std.proofs.Common.{◌+◌, length, arith}
use Rattle.table.proofs.Buckets.{room_slots, room_most}
use Rattle.table.proofs.Links.{table_put}
use Rattle.table.proofs.Meaning.{chained_stored, chained_own}
use Rattle.table.proofs.Table.append.Goals as goal

pub link-requires : goal.link-requires
link-requires g c =
    let slots = room_slots (length c.args.self.now.slots.now) in
    let most = room_most (length c.args.self.now.slots.now) in
    (omega arith, (omega arith, c.requires.1.1.below (omega arith)))

pub invariant_of-self : goal.invariant_of-self
invariant_of-self g c =
    let t = c.args.self.now in
    record {
      chained = chained_own (c.args.place + 1) c.link.new.slots _
          (table_put g.K.Key.model t t.chained c.link.new.slots c.args.key c.args.place c.args.bucket c.requires.0 c.requires.1.0 c.requires.1.1 c.link.ensures);
    }

pub returns-clause-keys : goal.returns-clause-keys
returns-clause-keys g c =
    let t = c.args.self.now in
    chained_stored (c.args.place + 1) c.link.new.slots _
    (table_put g.K.Key.model t t.chained c.link.new.slots c.args.key c.args.place c.args.bucket c.requires.0 c.requires.1.0 c.requires.1.1 c.link.ensures)
