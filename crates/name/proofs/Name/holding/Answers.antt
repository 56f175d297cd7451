use Rattle.std.proofs.Common.{◌≡◌, ℕ, ◌-◌, List, ◌++◌, length, take, drop, replicate, refl, ap, ◌∙◌, rules, arith}
use Rattle.std.proofs.lemmas.List.{take_at, drop-replicate}
use Rattle.std.proofs.lemmas.Slice.{drop-append-drop}
use Rattle.name.proofs.Facts.{name_sized}
use Rattle.name.specs.Texts.{is_name}
use Rattle.name.proofs.Name.holding.Goals as goal

-- what was copied stands in front
front : (xs ys zs : List ℕ) → ys ≡ xs → take (length xs) (ys ++ zs) ≡ xs
front xs ys zs e = rw e (take_at xs zs (length xs) refl)

-- behind what was copied stand zeros
behind : (xs ys : List ℕ) → ys ≡ xs → drop (length xs) (ys ++ drop (length xs - 0) (replicate 16 0)) ≡ replicate (16 - length xs) 0
behind xs ys e =
    let len : length ys ≡ length xs - 0 = omega (arith, ap length e) in
    drop-append-drop (length xs - 0) (replicate 16 0) ys (length xs) (omega arith) len ∙ drop-replicate (length xs) 16 0

pub slice_bounds-kept-end : goal.slice_bounds-kept-end
slice_bounds-kept-end c = let h = name_sized c.args.bytes.now c.requires in search rules

pub invariant_of-result : goal.invariant_of-result
invariant_of-result c =
    record { short = (name_sized c.args.bytes.now c.requires).1; named = ap is_name (front _ _ _ c.copy_from_slice.ensures.after) ∙ c.requires; padded = behind _ _ c.copy_from_slice.ensures.after }

pub returns : goal.returns
returns c = front _ _ _ c.copy_from_slice.ensures.after
