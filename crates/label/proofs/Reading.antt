-- Rules are numbered from 1, and stand at places from 0.
use Rattle.std.proofs.Common.{◌≡◌, ℕ, zero, suc, ◌+◌, List, map, Option, sym, ap, ◌∙◌, arith}
use Rattle.std.proofs.lemmas.Option.{slice_get-map}
use Rattle.std.specs.List.{slice_get}
use Rattle.std.specs.Option.{option_map}
use Rattle.grammar.specs.Lists.{numbered}

place_of : {A : Type 0} (xs : List A) (r i : ℕ) → i + 1 ≡ r → slice_get xs i ≡ numbered xs r
place_of xs zero i e = absurd (omega arith)
place_of xs (suc r) i e = (let k : i ≡ r = omega arith in ap (slice_get xs) k)

-- the rule of a number, read through a view
pub numbered_rule : {A B : Type 0} (f : A → B) (xs : List A) (ys : List B) → map f xs ≡ ys → (r i : ℕ) (o : Option A) → i + 1 ≡ r → o ≡ slice_get xs i → option_map f o ≡ numbered ys r
numbered_rule f xs ys same r i o e h = ap (option_map f) h ∙ sym (slice_get-map f xs i) ∙ ap (λ z. slice_get z i) same ∙ place_of ys r i e
