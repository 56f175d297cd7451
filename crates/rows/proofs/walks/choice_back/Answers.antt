use Rattle.std.proofs.Common.{rules, ◌≡◌, ◌+◌, ◌-◌, sym, ap, ◌∙◌, arith}
use Rattle.rows.specs.Stored.{keys_in}
use Rattle.entries.specs.Keys.{stands}
use Rattle.entries.specs.Walks.{before_of, choice_in}
use Rattle.rows.proofs.Reading.{spin, spin_more, reads}
use Rattle.rows.proofs.walks.choice_back.Goals as goal

pub loop-i-preserved : goal.loop-i-preserved
loop-i-preserved g c =
    let es = keys_in c.args.entries.now in
    let w = c.args.width in
    let i = c.loop-i._i in
    let o = c.entry_at-entry.ensures in
    let before : c.and_then-place.result ≡ before_of c.entry_at-entry.result = search rules in
    let choice : stands c.and_then-choice.result ≡ choice_in c.entry_at-entry.result = search rules in
    let p = before ∙ ap before_of o in
    let x = choice ∙ ap choice_in o in
    (λ t. spin es (w - (i + 1)) (p t) (x t)) ∙ sym (spin_more es w i c.loop-i.place (stands c.loop-i.choice) c.loop-i-test.true) ∙ c.loop-i.invariant

pub returns : goal.returns
returns g c =
    let es = keys_in c.args.entries.now in
    let z : c.args.width - c.loop-i._i ≡ 0 = omega arith in
    sym (ap (λ k. spin es k c.loop-i.place (stands c.loop-i.choice)) z) ∙ c.loop-i.invariant ∙ reads es c.args.width c.args.n c.args.end
