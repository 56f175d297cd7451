use Rattle.std.proofs.Common.{rules, ◌≡◌, ◌<◌, length, sym, ◌∙◌, subst, arith}
use Rattle.row.specs.Views.{row_in}
use Rattle.rows.specs.Meaning.{rows_of}
use Rattle.rows.proofs.Walked.{row_long}
use Rattle.states.specs.Placing.{KeepsRow, label_answer}
use Rattle.states.proofs.Working.{row_answer, keeps_put}
use Rattle.states.proofs.placing.keep_row.Goals as goal

pub returns-clause-keeps : goal.returns-clause-keeps
returns-clause-keeps g c = λ w r.
    let m = g.C.Cost.model in
    let v = c.args.rows.now in
    let x = row_in c.args.work.now in
    let few : length (rows_of v) < c.args.most = (let k = c.count.ensures in omega arith) in
    let answer : label_answer c.map_err.result ≡ row_answer c.put.result = search rules in
    subst (λ z. KeepsRow m v (rows_of v) x c.args.most z c.put.new.self) (sym answer)
    (keeps_put m v x c.args.most c.in_default.ensures (row_long c.args.work.now ∙ w) r few c.put.result c.put.new.self c.put.ensures.answer c.put.ensures.rows)
