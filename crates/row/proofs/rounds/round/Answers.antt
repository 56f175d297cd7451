use Rattle.std.proofs.Common.{map, sym, ap, ◌∙◌}
use Rattle.std.proofs.lemmas.Bool.{or_parts}
use Rattle.row.specs.Kept.{chain_gives}
use Rattle.row.specs.Views.{kept_of}
use Rattle.row.proofs.Passing.{pass_takes, pass_skips}
use Rattle.row.proofs.rounds.round.Goals as goal
use Rattle.row.proofs.rounds.round.Goals.{in-Some, in_default}

pub loop-i-preserved : goal.loop-i-preserved
loop-i-preserved g c =
    let m = g.C.Cost.model in
    let f = chain_gives m in
    let ks = c.args.rules.now in
    let i = c.loop-i.i in
    let xs = map kept_of c.args.work.now in
    let was = map kept_of c.loop-i.work in
    let k = c.index-rules-i.result in
    let k-is = c.index-rules-i.is in
    elim c.match-chain_rank.branch [
      | in-Some w ↦ (ap (map kept_of) w.work-is ∙ pass_takes m f xs ks i k was (map kept_of w.keep_better-changed.new.work) w.in-Some.rank c.loop-i-test.true k-is c.loop-i.invariant.0 (sym c.chain_rank.ensures ∙ w.in-Some.is) w.keep_better-changed.ensures.made, λ e. let parts = or_parts c.loop-i.changed w.keep_better-changed.result (sym w.changed-is ∙ e) in w.work-is ∙ w.keep_better-changed.ensures.told parts.1 ∙ c.loop-i.invariant.1 parts.0)
      | in_default w ↦ (ap (map kept_of) w.work-is ∙ pass_skips m f xs ks i k was c.loop-i-test.true k-is c.loop-i.invariant.0 (sym c.chain_rank.ensures ∙ w.in_default.is), λ e. w.work-is ∙ c.loop-i.invariant.1 (sym w.changed-is ∙ e))
    ]
