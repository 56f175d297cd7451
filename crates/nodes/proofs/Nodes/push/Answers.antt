use Rattle.std.proofs.Common.{◌≡◌, ◌<◌, length, sym, refl, ◌∙◌, arith}
use Rattle.std.proofs.lemmas.List.{length-set}
use Rattle.nodes.specs.Places.{placed}
use Rattle.nodes.specs.Meaning.{places_of}
use Rattle.nodes.proofs.Pushing.{pushed_new, marks_push, below_push}
use Rattle.nodes.proofs.Nodes.push.Goals as goal

pub invariant_of-self : goal.invariant_of-self
invariant_of-self c =
    let v = c.args.self.now in
    let f = v.fits in
    let room : v.len < length (places_of v) = omega (arith, c.if-place-self.false) in
    let long : length c.store.new.places ≡ length (places_of v) =
    c.store.ensures.size ∙ length-set (places_of v) v.len (placed c.args.node c.args.label) in
    record {
      fits = omega arith;
      few = omega (arith, c.if-place-self.false);
      marks = marks_push (places_of v) c.store.new.places v.len c.args.node c.args.label room c.store.ensures v.marks v.below;
      below = below_push (places_of v) c.store.new.places v.len c.args.node c.args.label room c.store.ensures v.below (sym c.all_below.ensures ∙ c.if-not-all_below.false);
    }

pub returns-clause-pushed : goal.returns-clause-pushed
returns-clause-pushed c =
    pushed_new c.args.self.now _ c.args.node c.args.label _ c.if-place-self.false (sym c.all_below.ensures ∙ c.if-not-all_below.false) c.store.ensures refl refl
