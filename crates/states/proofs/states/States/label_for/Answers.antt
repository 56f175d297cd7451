use Rattle.std.proofs.Common.{rules, ◌≡◌, ◌<◌, ◌≤◌, map, length, Ok, Err, sym, refl, ap, ◌∙◌, subst, arith}
use Rattle.covers.specs.Rows.{row, row_from}
use Rattle.covers.specs.Trees.{count}
use Rattle.covers.specs.Held.{key}
use Rattle.row.specs.Views.{row_in}
use Rattle.table.specs.Chains.{room_for}
use Rattle.table.specs.Tables.{keys_of, room_of}
use Rattle.rows.specs.Meaning.{rows_of, rows_room, rows_in}
use Rattle.states.specs.Keys.{lead_of}
use Rattle.states.specs.Leading.{led, key_rows}
use Rattle.states.specs.Placing.{KeepsRow, label_answer}
use Rattle.states.proofs.Growth.{row_by_key}
use Rattle.states.proofs.Labelling.{gives_known, gives_no_keys, gives_no_rows, gives_added}
use Rattle.states.proofs.states.States.label_for.Goals as goal

pub returns-in-Some-clause-gives : goal.returns-in-Some-clause-gives
returns-in-Some-clause-gives g c = λ G ts t k e n q.
    let v = c.args.self.now in
    gives_known g.met.C.Cost.laws v ts t k n c.in-Some.label.0 (c.in-Some.ensures ∙ ap (led (map lead_of (keys_of v.transitions))) q)

pub returns-then-count-self-clause-gives : goal.returns-then-count-self-clause-gives
returns-then-count-self-clause-gives g c = λ G ts t k e n q.
    let v = c.args.self.now in
    let few : v.most_keys ≤ length (keys_of v.transitions) = (let h = c.count.ensures.keys in omega arith) in
    gives_no_keys g.met.C.Cost.laws v ts t k n (c.in_default.ensures ∙ ap (led (map lead_of (keys_of v.transitions))) q) few

pub returns-in_err-label-clause-gives : goal.returns-in_err-label-clause-gives
returns-in_err-label-clause-gives g c = λ G ts t k e n q.
    let l = g.met.C.Cost.laws in
    let m = g.C.Cost.model in
    let v = c.args.self.now in
    let held = rows_of v.rows in
    let nowhere = c.in_default.ensures ∙ ap (led (map lead_of (keys_of v.transitions))) q in
    let few : length (keys_of v.transitions) < v.most_keys = (let h = c.count.ensures.keys in omega arith) in
    let before : length v.work.now ≡ count G = k.work in
    let long : length c.work_out.new.work ≡ count G = c.work_out.auto.work ∙ before in
    let is : row_in c.work_out.new.work ≡ row m G t = c.work_out.ensures G k.sealed.declared e (sym before) ∙ ap (λ z. row_from m G (key_rows held z)) q ∙ ap (λ z. row_from m G (key_rows z (key m G ts t))) k.rows ∙ sym (row_by_key l k.sealed ts t n.small n.before) in
    let keeps = subst (λ z. KeepsRow m v.rows z (row_in c.work_out.new.work) v.most_rows (label_answer c.keep_row.result) c.keep_row.new.rows) k.rows (c.keep_row.ensures.keeps (long ∙ sym k.wide) k.row_room) in
    let refused : label_answer c.keep_row.result ≡ Err c.in_err-label.field-0.0 = ap label_answer c.in_err-label.was in
    let answer : label_answer c.from_residual.result ≡ Err c.in_err-label.field-0.0 = search rules in
    gives_no_rows l v ts t k n nowhere few (row_in c.work_out.new.work) is _ c.keep_row.new.rows keeps c.in_err-label.field-0.0 refused _ answer _ refl refl long refl refl

pub returns-clause-gives : goal.returns-clause-gives
returns-clause-gives g c = λ G ts t k e n q.
    let l = g.met.C.Cost.laws in
    let m = g.C.Cost.model in
    let v = c.args.self.now in
    let held = rows_of v.rows in
    let nowhere = c.in_default.ensures ∙ ap (led (map lead_of (keys_of v.transitions))) q in
    let few : length (keys_of v.transitions) < v.most_keys = (let h = c.count.ensures.keys in omega arith) in
    let before : length v.work.now ≡ count G = k.work in
    let long : length c.work_out.new.work ≡ count G = c.work_out.auto.work ∙ before in
    let is : row_in c.work_out.new.work ≡ row m G t = c.work_out.ensures G k.sealed.declared e (sym before) ∙ ap (λ z. row_from m G (key_rows held z)) q ∙ ap (λ z. row_from m G (key_rows z (key m G ts t))) k.rows ∙ sym (row_by_key l k.sealed ts t n.small n.before) in
    let keeps = subst (λ z. KeepsRow m v.rows z (row_in c.work_out.new.work) v.most_rows (label_answer c.keep_row.result) c.keep_row.new.rows) k.rows (c.keep_row.ensures.keeps (long ∙ sym k.wide) k.row_room) in
    let memory = c.keep_row.ensures.memory in
    let keys : room_of c.put.new.self ≡ room_of v.transitions = ap room_for c.put.ensures.memory.length in
    let rows : rows_room c.keep_row.new.rows ≡ rows_room v.rows = (λ i. rows_in (room_for (memory.ends.length i)) (room_for (memory.entries.length i)) (memory.width i)) in
    let kept : label_answer c.keep_row.result ≡ Ok c.in_ok-label.label.0 = ap label_answer c.in_ok-label.was in
    gives_added l v ts t k n nowhere few (row_in c.work_out.new.work) is _ c.keep_row.new.rows keeps c.in_ok-label.label.0 c.args.key q kept c.put.new.self c.put.ensures.keys _ refl refl (memory.width ∙ k.wide) long (let h = k.key_room in omega arith) (let h = k.row_room in omega arith)
