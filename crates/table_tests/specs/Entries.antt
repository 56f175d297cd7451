-- Entries are the same exactly where they are equal.
use Rattle.std.specs.Prelude.{◌≡◌, true, ◌==◌, refl}
use Rattle.std.specs.declared.cmp.Ordering.TheVariants.{Less, Equal, Greater}
use Rattle.std.specs.declared.cmp.Ordering.{Ordering}
use Rattle.std.proofs.Common.{true≢false, sym, ap}
use Rattle.std.proofs.lemmas.Bool.{and_parts, and_from, eqb-true, eq-eqb}
use Rattle.std.specs.Ordering.{is_eq}
use Rattle.cost.specs.Model.{Model, Laws}
use Rattle.cost.specs.PairLaws.{cmp_itself}
use Rattle.table.specs.Keys.{KeyLaws}
use Rattle.table.proofs.Places.{equal_laws}
use Rattle.table_tests.specs.Keys.{entry_key}

equal_from : (r : Ordering) → is_eq r ≡ true → r ≡ Equal
equal_from Less e = absurd (true≢false (sym e))
equal_from Equal e = refl
equal_from Greater e = absurd (true≢false (sym e))

pub entry_laws : {C : Type 0} (m : Model C) → Laws m → KeyLaws (entry_key m)
entry_laws {C} m l =
    equal_laws (entry_key m)
    (λ x. and_from (x.before == x.before) (is_eq (m.cmp x.cost x.cost)) (eq-eqb x.before x.before refl) (ap is_eq (cmp_itself l x.cost)))
    (λ x y p.
    let parts = and_parts (x.before == y.before) (is_eq (m.cmp x.cost y.cost)) p in
    let b = eqb-true x.before y.before parts.0 in
    let c = l.cmp_same x.cost y.cost (equal_from (m.cmp x.cost y.cost) parts.1) in
    λ i. record { before = b i; cost = c i })
