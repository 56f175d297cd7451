use Rattle.std.proofs.Common.{◌≡◌, ◌+◌, ◌-◌, ◌≤◌, map, length, sym, ap, ◌∙◌, arith}
use Rattle.grammar.specs.Views.{rule_of}
use Rattle.row.specs.Kept.{round_of, times}
use Rattle.row.specs.Views.{kept_of}
use Rattle.row.proofs.Passing.{times_more, times_stop}
use Rattle.row.proofs.rounds.run_rounds.Goals as goal

pub rounds-preserved : goal.rounds-preserved
rounds-preserved g c =
    let f = round_of g.C.Cost.model (map rule_of c.args.rules.now) in
    let x = map kept_of c.args.work.now in
    let j = c.rounds.counter - 1 in
    let e : j + 1 ≡ c.rounds.counter + 1 - 1 = omega arith in
    let h : c.rounds.counter + 1 - 1 ≤ length c.args.work.now - 1 = omega arith in
    (h, c.round.ensures.made ∙ ap f c.rounds.invariant.1 ∙ sym (times_more f j x) ∙ ap (λ z. times f z x) e)

pub returns-then-not-round : goal.returns-then-not-round
returns-then-not-round g c =
    let f = round_of g.C.Cost.model (map rule_of c.args.rules.now) in
    let x = map kept_of c.args.work.now in
    let y = map kept_of c.rounds.work in
    let same = ap (map kept_of) (c.round.ensures.told c.if-not-round.true) in
    let h : c.rounds.counter - 1 ≤ length c.args.work.now - 1 = c.rounds.invariant.0 in
    same ∙ times_stop f (c.rounds.counter - 1) (length c.args.work.now - 1) x y h c.rounds.invariant.1 (sym c.round.ensures.made ∙ same)
