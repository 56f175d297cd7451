use Rattle.std.proofs.Common.{◌<◌, length, sym, ◌∙◌, inl, inr, arith}
use Rattle.row.specs.Views.{row_in}
use Rattle.covers.specs.Held.{same_row}
use Rattle.entries.proofs.Seen.{put_seen}
use Rattle.table.specs.Tables.{keys_of}
use Rattle.rows.specs.Meaning.{rows_of, rows_room}
use Rattle.rows.proofs.Walked.{row_long}
use Rattle.rows.proofs.Putting.{puts_full, not_refused, added, added_answer, added_rows, added_keeps, added_something}
use Rattle.rows.proofs.held.Rows.put.Goals as goal
use Rattle.rows.proofs.held.Rows.put.Goals.{then-row-self-via-then-row-self, then-row-self-via-else-row-self+then-count-room}

pub returns-in-Some-clause-rows : goal.returns-in-Some-clause-rows
returns-in-Some-clause-rows g c =
    sym (put_seen (same_row g.C.Cost.model) (rows_of c.args.self.now) (row_in c.args.row.now) c.in-Some.label (sym c.in-Some.ensures))

pub returns-then-row-self-clause-answer : goal.returns-then-row-self-clause-answer
returns-then-row-self-clause-answer g c =
    let v = c.args.self.now in
    let ws = c.args.row.now in
    puts_full g.met.C.Cost.laws v v.keeps (row_in ws)
    (elim c.then-row-self.branch [
      | then-row-self-via-then-row-self w ↦ inl (λ e. w.if-row-self.true (sym (row_long ws) ∙ e))
      | then-row-self-via-else-row-self+then-count-room w ↦ inr (let a = w.count.ensures in let b = w.room.ensures in let t = w.if-count-room.true in omega arith)
    ])
    c.in_default.ensures

-- An entry is never refused, since there is room for the row.

pub invariant_of-self : goal.invariant_of-self
invariant_of-self g c =
    let v = c.args.self.now in
    let ws = c.args.row.now in
    let wide = row_long ws ∙ c.if-row-self.false in
    let few : length (rows_of v) < rows_room v = (let a = c.count.ensures in let b = c.room.ensures in omega arith) in
    absurd (not_refused g.met.C.Cost.laws v v.keeps (row_in ws) wide few (length ws) (row_long ws) (keys_of c.lay_row.new.entries) c.in_err-end.field-0.0 c.in_err-end.ensures.lays)

pub returns-in_err-end-clause-answer : goal.returns-in_err-end-clause-answer
returns-in_err-end-clause-answer g c =
    let v = c.args.self.now in
    let ws = c.args.row.now in
    let wide = row_long ws ∙ c.if-row-self.false in
    let few : length (rows_of v) < rows_room v = (let a = c.count.ensures in let b = c.room.ensures in omega arith) in
    absurd (not_refused g.met.C.Cost.laws v v.keeps (row_in ws) wide few (length ws) (row_long ws) (keys_of c.lay_row.new.entries) c.in_err-end.field-0.0 c.in_err-end.ensures.lays)

pub returns-in_err-end-clause-rows : goal.returns-in_err-end-clause-rows
returns-in_err-end-clause-rows g c =
    let v = c.args.self.now in
    let ws = c.args.row.now in
    let wide = row_long ws ∙ c.if-row-self.false in
    let few : length (rows_of v) < rows_room v = (let a = c.count.ensures in let b = c.room.ensures in omega arith) in
    absurd (not_refused g.met.C.Cost.laws v v.keeps (row_in ws) wide few (length ws) (row_long ws) (keys_of c.lay_row.new.entries) c.in_err-end.field-0.0 c.in_err-end.ensures.lays)

pub returns-in_err-end-clause-unchanged : goal.returns-in_err-end-clause-unchanged
returns-in_err-end-clause-unchanged g c =
    let v = c.args.self.now in
    let ws = c.args.row.now in
    let wide = row_long ws ∙ c.if-row-self.false in
    let few : length (rows_of v) < rows_room v = (let a = c.count.ensures in let b = c.room.ensures in omega arith) in
    absurd (not_refused g.met.C.Cost.laws v v.keeps (row_in ws) wide few (length ws) (row_long ws) (keys_of c.lay_row.new.entries) c.in_err-end.field-0.0 c.in_err-end.ensures.lays)

-- The row is added.

pub invariant_of-self-2 : goal.invariant_of-self-2
invariant_of-self-2 g c =
    let v = c.args.self.now in
    let ws = c.args.row.now in
    let wide = row_long ws ∙ c.if-row-self.false in
    let few : length (rows_of v) < rows_room v = (let a = c.count.ensures in let b = c.room.ensures in omega arith) in
    let fs = keys_of c.lay_row.new.entries in
    let ps = keys_of c.put.new.self in
    let d = added g.met.C.Cost.laws v v.keeps (row_in ws) wide few c.in_default.ensures fs c.in_ok-end.end (length ws) (row_long ws) c.in_ok-end.ensures.lays c.put.result c.put.ensures.answer ps c.put.ensures.keys in
    record { keeps = added_keeps g.met.C.Cost.laws v v.keeps (row_in ws) wide few c.in_default.ensures fs ps c.put.result d }

pub returns-clause-answer : goal.returns-clause-answer
returns-clause-answer g c =
    let v = c.args.self.now in
    let ws = c.args.row.now in
    let wide = row_long ws ∙ c.if-row-self.false in
    let few : length (rows_of v) < rows_room v = (let a = c.count.ensures in let b = c.room.ensures in omega arith) in
    let fs = keys_of c.lay_row.new.entries in
    let ps = keys_of c.put.new.self in
    let d = added g.met.C.Cost.laws v v.keeps (row_in ws) wide few c.in_default.ensures fs c.in_ok-end.end (length ws) (row_long ws) c.in_ok-end.ensures.lays c.put.result c.put.ensures.answer ps c.put.ensures.keys in
    added_answer g.met.C.Cost.laws v v.keeps (row_in ws) wide few c.in_default.ensures fs ps c.put.result d

pub returns-clause-rows : goal.returns-clause-rows
returns-clause-rows g c =
    let v = c.args.self.now in
    let ws = c.args.row.now in
    let wide = row_long ws ∙ c.if-row-self.false in
    let few : length (rows_of v) < rows_room v = (let a = c.count.ensures in let b = c.room.ensures in omega arith) in
    let fs = keys_of c.lay_row.new.entries in
    let ps = keys_of c.put.new.self in
    let d = added g.met.C.Cost.laws v v.keeps (row_in ws) wide few c.in_default.ensures fs c.in_ok-end.end (length ws) (row_long ws) c.in_ok-end.ensures.lays c.put.result c.put.ensures.answer ps c.put.ensures.keys in
    added_rows g.met.C.Cost.laws v v.keeps (row_in ws) wide few c.in_default.ensures fs ps c.put.result d

pub returns-clause-unchanged : goal.returns-clause-unchanged
returns-clause-unchanged g c f =
    let v = c.args.self.now in
    let ws = c.args.row.now in
    let wide = row_long ws ∙ c.if-row-self.false in
    let few : length (rows_of v) < rows_room v = (let a = c.count.ensures in let b = c.room.ensures in omega arith) in
    let fs = keys_of c.lay_row.new.entries in
    let ps = keys_of c.put.new.self in
    let d = added g.met.C.Cost.laws v v.keeps (row_in ws) wide few c.in_default.ensures fs c.in_ok-end.end (length ws) (row_long ws) c.in_ok-end.ensures.lays c.put.result c.put.ensures.answer ps c.put.ensures.keys in
    absurd (added_something g.met.C.Cost.laws v v.keeps (row_in ws) wide few c.in_default.ensures fs ps c.put.result d f)
