use Rattle.std.proofs.Common.{◌≡◌, map, length, sym, ap, ◌∙◌, arith}
use Rattle.row.specs.Kept.{base_gives}
use Rattle.row.specs.Views.{kept_of, no_chains, applied}
use Rattle.row.proofs.Passing.{pass_takes, pass_skips, pass_all}
use Rattle.row.proofs.kids.Step.take_bases.Goals as goal
use Rattle.row.proofs.kids.Step.take_bases.Goals.{in-Some, in_default}

pub loop-i-preserved : goal.loop-i-preserved
loop-i-preserved g c =
    let m = g.K.Cost.Cost.model in
    let f = base_gives m (applied g.K.KidRow.costs c.args.self.now.kids) in
    let ks = c.args.self.now.rules.now in
    let i = c.loop-i.i in
    let xs = map kept_of c.args.work.now in
    let was = map kept_of c.loop-i.work in
    let k = c.rule-item.result in
    let k-is = c.rule-item.is in
    elim c.match-base_cost.branch [
      | in-Some w ↦ ap (map kept_of) w.work-is ∙ pass_takes m f xs ks i k was (map kept_of w.keep_better.new.work) (w.in-Some.cost, 0) c.loop-i-test.true k-is c.loop-i.invariant (sym c.base_cost.ensures ∙ ap no_chains w.in-Some.is) w.keep_better.ensures.made
      | in_default w ↦ ap (map kept_of) w.work-is ∙ pass_skips m f xs ks i k was c.loop-i-test.true k-is c.loop-i.invariant (sym c.base_cost.ensures ∙ ap no_chains w.in_default.is)
    ]

pub returns : goal.returns
returns g c =
    let m = g.K.Cost.Cost.model in
    let f = base_gives m (applied g.K.KidRow.costs c.args.self.now.kids) in
    let e : c.loop-i.i ≡ length c.args.self.now.rules.now = omega arith in
    pass_all m f (map kept_of c.args.work.now) (map kept_of c.loop-i.work) c.args.self.now.rules.now c.loop-i.i e c.loop-i.invariant
