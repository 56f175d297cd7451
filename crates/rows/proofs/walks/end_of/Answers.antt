use Rattle.std.proofs.Common.{rules, ◌≡◌, ◌<◌, ◌≤◌, length, Some, None, sym, ap, ◌∙◌, arith}
use Rattle.std.proofs.lemmas.List.{take_all}
use Rattle.covers.specs.Rows.{cost_entry}
use Rattle.row.specs.Views.{kept_of, row_in}
use Rattle.table.specs.Keys.{place_of}
use Rattle.table.specs.Tables.{keys_of}
use Rattle.entries.specs.Keys.{entry_key}
use Rattle.entries.specs.Walks.{walk}
use Rattle.rows.proofs.Walked.{walk_more, walk_ends, row_item, row_long, place_small}
use Rattle.rows.proofs.walks.end_of.Goals as goal

pub returns-in_err-found : goal.returns-in_err-found
returns-in_err-found g c =
    let m = g.C.Cost.model in
    let es = keys_of c.args.entries.now in
    let ws = c.args.row.now in
    let i = c.loop-work.work-index in
    let x = c.work-item.result in
    let inside : i < length (row_in ws) = (let e = row_long ws in omega arith) in
    let none : c.from_residual.result ≡ None = search rules in
    none ∙ walk_ends m es (row_in ws) i (cost_entry (kept_of x)) c.loop-work.end inside (row_item ws i x c.loop-work-test.true c.work-item.is) c.loop-work.invariant (c.in_err-found.ensures ∙ ap (place_of (entry_key m) es) c.entry_after.ensures)

pub loop-work-preserved : goal.loop-work-preserved
loop-work-preserved g c =
    let m = g.C.Cost.model in
    let t = c.args.entries.now in
    let es = keys_of t in
    let ws = c.args.row.now in
    let i = c.loop-work.work-index in
    let x = c.work-item.result in
    let inside : i < length (row_in ws) = (let e = row_long ws in omega arith) in
    let found = c.in_ok-found.ensures in
    walk_more m es (row_in ws) i c.in_ok-found.found (cost_entry (kept_of x)) c.loop-work.end inside (row_item ws i x c.loop-work-test.true c.work-item.is) c.loop-work.invariant (found ∙ ap (place_of (entry_key m) es) c.entry_after.ensures)
    ∙ ap (λ z. Some z) (sym (c.link-end.ensures (place_small (entry_key m) t es c.entry_after.result c.in_ok-found.found t.chained found)))

pub returns : goal.returns
returns g c =
    let ws = c.args.row.now in
    let all : length (row_in ws) ≤ c.loop-work.work-index = (let e = row_long ws in omega arith) in
    sym (ap (walk g.C.Cost.model (keys_of c.args.entries.now) None) (sym (take_all c.loop-work.work-index (row_in ws) all)) ∙ c.loop-work.invariant)
