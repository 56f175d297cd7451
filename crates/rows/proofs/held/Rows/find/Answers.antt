use Rattle.std.proofs.Common.{rules, ◌≡◌, None, sym, ◌∙◌}
use Rattle.row.specs.Views.{row_in}
use Rattle.table.specs.Tables.{keys_of}
use Rattle.entries.proofs.Keeping.{keeps_narrow, keeps_absent, keeps_place}
use Rattle.rows.specs.Meaning.{rows_of}
use Rattle.rows.proofs.Walked.{row_long}
use Rattle.rows.proofs.held.Rows.find.Goals as goal

pub returns-then-row-self : goal.returns-then-row-self
returns-then-row-self g c =
    let v = c.args.self.now in
    let ws = c.args.row.now in
    sym (keeps_narrow g.met.C.Cost.laws v.width (keys_of v.entries) (keys_of v.ends) (rows_of v) v.keeps (row_in ws) (λ e. c.if-row-self.true (sym (row_long ws) ∙ e)))

pub returns-in_err-end : goal.returns-in_err-end
returns-in_err-end g c =
    let v = c.args.self.now in
    let none : c.from_residual.result ≡ None = search rules in
    none ∙ sym (keeps_absent g.met.C.Cost.laws v.width (keys_of v.entries) (keys_of v.ends) (rows_of v) v.keeps (row_in c.args.row.now) (sym c.in_err-end.ensures))

pub returns : goal.returns
returns g c =
    let v = c.args.self.now in
    let ws = c.args.row.now in
    c.find.ensures
    ∙ keeps_place g.met.C.Cost.laws v.width (keys_of v.entries) (keys_of v.ends) (rows_of v) v.keeps (row_in ws) c.in_ok-end.end (row_long ws ∙ c.if-row-self.false) (sym c.in_ok-end.ensures)
