use Rattle.std.proofs.Common.{◌≡◌, ◌<◌, map, length, ap, ◌∙◌, slice_set, rules, arith}
use Rattle.std.proofs.lemmas.List.Edits.{map_over_more}
use Rattle.std.proofs.lemmas.Grind.{common_steps}
use Rattle.row.specs.Views.{kept_of}
use Rattle.row.proofs.Lowering.{lower_place, places_lowered}
use Rattle.row.proofs.least.lower_by.Goals as goal

pub loop-place-preserved : goal.loop-place-preserved
loop-place-preserved g c =
    let f = lower_place g.C.Cost.model c.args.least in
    let within : c.loop-place.place-index < length c.args.work.now = omega arith in
    let lowered : c.map.result ≡ f c.place-item.result = search rules in
    ap (slice_set c.loop-place.work c.loop-place.place-index) lowered ∙ map_over_more f c.args.work.now c.loop-place.work c.loop-place.place-index c.place-item.result within c.loop-place.invariant c.place-item.is

pub returns : goal.returns
returns g c =
    let whole : c.loop-place.work ≡ map (lower_place g.C.Cost.model c.args.least) c.args.work.now = grind (arith, common_steps, c.loop-place.invariant) in
    ap (map kept_of) whole ∙ places_lowered g.C.Cost.model c.args.least c.args.work.now
