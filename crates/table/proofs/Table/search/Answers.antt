use Rattle.std.proofs.Common.{◌≡◌, length, subst}
use Rattle.table.specs.Search.{Walk}
use Rattle.table.specs.Tables.{bucket_in, keys_of}
use Rattle.table.proofs.Chains.{walk_start, walk_found, gap_found}
use Rattle.table.proofs.Table.search.Goals as goal

pub loop-link-init : goal.loop-link-init
loop-link-init g c =
    let m = g.K.Key.model in
    let t = c.args.self.now in
    let k = c.args.key.now in
    let b : c.bucket-bucket.result ≡ bucket_in m t k = cc in
    (length (keys_of t), walk_start m g.met.K.Key.laws t t.chained k c.bucket-bucket.result c.head-link.result b c.head-link.ensures)

pub returns-then-same : goal.returns-then-same
returns-then-same g c =
    let m = g.K.Key.model in
    let t = c.args.self.now in
    let k = c.args.key.now in
    let walk = c.loop-link.invariant in
    walk_found m g.met.K.Key.laws t t.chained k walk.0 c.in-Some.place c.index-slots-place.result
    (subst (λ x. Walk m t k walk.0 x) c.in-Some.is walk.1) c.if-same.ensures

pub returns : goal.returns
returns g c =
    let m = g.K.Key.model in
    let t = c.args.self.now in
    let k = c.args.key.now in
    let walk = c.loop-link.invariant in
    let b : c.bucket-bucket.result ≡ bucket_in m t k = cc in
    gap_found m g.met.K.Key.laws t t.chained k c.bucket-bucket.result walk.0 b
    (subst (λ x. Walk m t k walk.0 x) c.in_default.is walk.1)
