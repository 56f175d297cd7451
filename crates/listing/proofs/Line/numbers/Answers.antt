use Rattle.std.proofs.Common.{◌≡◌, ℕ, ◌+◌, ◌<◌, ◌≤◌, List, map, length, get_or, take, ℤ, pos, sym, refl, ap, ◌∙◌, take_all, rules}
use Rattle.std.proofs.lemmas.List.{map_more}
use Rattle.std.proofs.lemmas.Int.{to_z-of_z}
use Rattle.std.proofs.lemmas.List.Sums.{fold_push}
use Rattle.std.specs.Fmt.{signed_decimal}
use Rattle.listing.specs.Fields.{with_field, with_fields}
use Rattle.listing.proofs.Line.numbers.Goals as goal

-- one more number
more : (line so_far r : List ℕ) (zs : List ℤ) (i : ℕ) → i < length zs → so_far ≡ with_fields line (map signed_decimal (take i zs)) → r ≡ with_field so_far (signed_decimal (get_or zs i (pos 0))) → r ≡ with_fields line (map signed_decimal (take (i + 1) zs))
more line so_far r zs i h was e =
    e ∙ ap (λ t. with_field t (signed_decimal (get_or zs i (pos 0)))) was ∙ sym (ap (with_fields line) (map_more signed_decimal zs i (pos 0) h) ∙ fold_push with_field line (map signed_decimal (take i zs)) (signed_decimal (get_or zs i (pos 0))))

-- past the last number
whole : (line r : List ℕ) (zs : List ℤ) (i : ℕ) → r ≡ with_fields line (map signed_decimal (take i zs)) → length zs ≤ i → r ≡ with_fields line (map signed_decimal zs)
whole line r zs i was h = was ∙ ap (λ t. with_fields line (map signed_decimal t)) (take_all i zs h)

pub loop-n-init : goal.loop-n-init
loop-n-init c = (refl, whole _ _ c.args.numbers.now 0 refl)

pub loop-n-preserved : goal.loop-n-preserved
loop-n-preserved c =
    let one_more = more _ _ _ c.args.numbers.now c.loop-n.n-index c.loop-n-test.true c.loop-n.invariant.0 (search (rules, to_z-of_z, c.in_ok-line.ensures)) in
    (one_more, whole _ _ c.args.numbers.now (c.loop-n.n-index + 1) one_more)
