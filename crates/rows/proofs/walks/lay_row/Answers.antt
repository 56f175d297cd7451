use Rattle.std.proofs.Common.{◌≡◌, ◌+◌, ◌<◌, ◌≤◌, length, take, sym, ap, ◌∙◌, subst, arith}
use Rattle.std.proofs.lemmas.List.{take_all}
use Rattle.covers.specs.Rows.{cost_entry}
use Rattle.row.specs.Views.{kept_of, row_in}
use Rattle.table.specs.Chains.{room_for}
use Rattle.table.specs.Tables.{keys_of, room_of}
use Rattle.rows.proofs.Walked.{row_item, row_long}
use Rattle.rows.proofs.Laying.{Laid, laid_more, laid_small, laid_refused, lays}
use Rattle.rows.proofs.walks.lay_row.Goals as goal

pub returns-in_err-place-clause-lays : goal.returns-in_err-place-clause-lays
returns-in_err-place-clause-lays g c = λ r.
    let ws = c.args.row.now in
    let i = c.loop-work.work-index in
    let x = c.work-item.result in
    let t = c.loop-work.entries in
    let es = keys_of c.args.entries.now in
    let inside : i < length (row_in ws) = (let e = row_long ws in omega arith) in
    let same : room_of t ≡ room_of c.args.entries.now = ap room_for c.loop-work.invariant.0.length in
    let room : length es + length (row_in ws) ≤ room_of t = (let e = row_long ws in omega arith) in
    absurd (laid_refused g.met.C.Cost.laws t es (row_in ws) i c.loop-work.end (cost_entry (kept_of x)) c.entry_after.result inside room (c.loop-work.invariant.1 r) (row_item ws i x c.loop-work-test.true c.work-item.is) c.entry_after.ensures c.in_err-place.field-0.0 c.in_err-place.ensures.answer)

pub loop-work-preserved : goal.loop-work-preserved
loop-work-preserved g c = (
  record {
    length = c.in_ok-place.ensures.memory.length ∙ c.loop-work.invariant.0.length;
    named = c.in_ok-place.ensures.memory.named ∙ c.loop-work.invariant.0.named;
  },
  λ r.
      let l = g.met.C.Cost.laws in
      let ws = c.args.row.now in
      let i = c.loop-work.work-index in
      let x = c.work-item.result in
      let t = c.loop-work.entries in
      let u = c.put.new.self in
      let es = keys_of c.args.entries.now in
      let inside : i < length (row_in ws) = (let e = row_long ws in omega arith) in
      let same : room_of t ≡ room_of c.args.entries.now = ap room_for c.loop-work.invariant.0.length in
      let room : length es + length (row_in ws) ≤ room_of t = (let e = row_long ws in omega arith) in
      let laid = c.loop-work.invariant.1 r in
      let item = row_item ws i x c.loop-work-test.true c.work-item.is in
      let p = c.in_ok-place.place in
      let small = laid_small l t es (row_in ws) i c.loop-work.end (cost_entry (kept_of x)) c.entry_after.result inside room laid item c.entry_after.ensures u u.chained c.in_ok-place.ensures.keys p c.in_ok-place.ensures.answer in
      subst (Laid g.C.Cost.model es (keys_of u) (take (i + 1) (row_in ws))) (sym (c.link-end.ensures small)) (laid_more l t es (row_in ws) i c.loop-work.end (cost_entry (kept_of x)) c.entry_after.result inside room laid item c.entry_after.ensures u u.chained c.in_ok-place.ensures.keys p c.in_ok-place.ensures.answer),
)

pub returns-clause-lays : goal.returns-clause-lays
returns-clause-lays g c = λ r.
    let ws = c.args.row.now in
    let es = keys_of c.args.entries.now in
    let fs = keys_of c.loop-work.entries in
    let all : length (row_in ws) ≤ c.loop-work.work-index = (let e = row_long ws in omega arith) in
    lays g.C.Cost.model es fs (row_in ws) c.loop-work.end (subst (λ z. Laid g.C.Cost.model es fs z c.loop-work.end) (take_all c.loop-work.work-index (row_in ws) all) (c.loop-work.invariant.1 r))
