use Rattle.std.proofs.Common.{◌+◌, ◌≤◌, map, length, sym, subst, arith}
use Rattle.std.proofs.lemmas.List.{map-set, length-map}
use Rattle.grammar.specs.Views.{rule_of}
use Rattle.row.specs.Views.{kept_of, applied}
use Rattle.row.proofs.Choosing.{ChosenTo, choose_more, choose_all}
use Rattle.row.proofs.kids.Step.choose_rules.Goals as goal

pub loop-n-preserved : goal.loop-n-preserved
loop-n-preserved g c =
    let m = g.K.Cost.Cost.model in
    let ρs = map rule_of c.args.self.now.rules.now in
    let s = applied g.K.KidRow.costs c.args.self.now.kids in
    let xs = map kept_of c.args.work.now in
    let ys = map kept_of c.loop-n.work in
    let n = c.loop-n.n in
    let o = c.chosen.result in
    subst (ChosenTo m ρs s xs (n + 1)) (sym (map-set kept_of c.loop-n.work n o)) (choose_more m ρs s xs ys n (kept_of o) c.loop-n.invariant c.chosen.ensures)

pub returns : goal.returns
returns g c =
    let long = length-map c.args.work.now kept_of in
    let h : length (map kept_of c.args.work.now) ≤ c.loop-n.n = omega arith in
    choose_all g.K.Cost.Cost.model (map rule_of c.args.self.now.rules.now) (applied g.K.KidRow.costs c.args.self.now.kids) (map kept_of c.args.work.now) (map kept_of c.loop-n.work) c.loop-n.n h c.loop-n.invariant
