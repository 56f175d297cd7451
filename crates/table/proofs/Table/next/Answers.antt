use Rattle.std.proofs.Common.{subst}
use Rattle.table.specs.Search.{Walk}
use Rattle.table.proofs.Chains.{walk_step}
use Rattle.table.proofs.Table.next.Goals as goal

pub returns : goal.returns
returns g c k bound link d e w s =
    let m = g.K.Key.model in
    let t = c.args.self.now in
    walk_step m g.met.K.Key.laws t t.chained k bound c.args.place d c.index-slots-place.result
    (subst (λ x. Walk m t k bound x) e w) s
