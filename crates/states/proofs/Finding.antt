-- The label that a key leads to, as a table of transitions finds it.
use Rattle.std.proofs.Common.{◌≡◌, ℕ, zero, suc, Bool, true, false, cond, List, [], ◌∷◌, map, Some, None, Option, sym, refl, ap, ◌∙◌, true≢false}
use Rattle.std.specs.List.{slice_get}
use Rattle.std.specs.Option.{option_map}
use Rattle.covers.specs.Held.{Key, same_key}
use Rattle.covers.proofs.Relaxing.{some_is, none_some}
use Rattle.covers.proofs.Labels.{same_key_tells}
use Rattle.table.specs.Keys.{place_of}
use Rattle.states.specs.declared.transition.Transition.{Transition}
use Rattle.states.specs.Keys.{key_of, lead_of, transition_key}
use Rattle.states.specs.Leading.{led}

-- what stands at a place that was found, or none
abbrev found_label : List Transition → Option ℕ → Option ℕ
found_label ks None = None
found_label ks (Some p) = option_map (λ (t : Transition). t.label.0) (slice_get ks p)

found_next : (k : Transition) (ks : List Transition) (o : Option ℕ) → found_label (k ∷ ks) (option_map suc o) ≡ found_label ks o
found_next k ks None = refl
found_next k ks (Some p) = refl

found_by : (k : Transition) (ks : List Transition) (x : Transition) (b : Bool) (o : Option ℕ) → found_label ks o ≡ led (map lead_of ks) (key_of x.key) → found_label (k ∷ ks) (cond b (Some 0) (option_map suc o)) ≡ cond b (Some k.label.0) (led (map lead_of ks) (key_of x.key))
found_by k ks x true o e = refl
found_by k ks x false o e = found_next k ks o ∙ e

found_is : (ks : List Transition) (x : Transition) → found_label ks (place_of transition_key ks x) ≡ led (map lead_of ks) (key_of x.key)
unfolding place_of
found_is [] x = refl
found_is (k ∷ ks) x = found_by k ks x (same_key (key_of k.key) (key_of x.key)) (place_of transition_key ks x) (found_is ks x)

-- a key that is not found leads nowhere
pub found_none : (ks : List Transition) (x : Transition) → None ≡ place_of transition_key ks x → None ≡ led (map lead_of ks) (key_of x.key)
found_none ks x e = ap (found_label ks) e ∙ found_is ks x

-- and one that is found to the label at its place
pub found_some : (ks : List Transition) (x : Transition) (p : ℕ) → Some p ≡ place_of transition_key ks x → option_map (λ (t : Transition). t.label.0) (slice_get ks p) ≡ led (map lead_of ks) (key_of x.key)
found_some ks x p e = ap (found_label ks) e ∙ found_is ks x

-- ---- where a key leads

led_by : (x : Key × ℕ) (xs : List (Key × ℕ)) (k : Key) (l : ℕ) (b : Bool) → same_key x.0 k ≡ b → cond b (Some x.1) (led xs k) ≡ Some l → (led xs k ≡ Some l → (i : ℕ) × (slice_get xs i ≡ Some (k, l))) → (i : ℕ) × (slice_get (x ∷ xs) i ≡ Some (k, l))
led_by x xs k l true s e rest = (0, (let a = (same_key_tells x.0 k).0 s in let b = some_is x.1 l e in λ i. Some (a i, b i)))
led_by x xs k l false s e rest = (let r = rest e in (suc r.0, r.1))

pub led_at : (xs : List (Key × ℕ)) (k : Key) (l : ℕ) → led xs k ≡ Some l → (i : ℕ) × (slice_get xs i ≡ Some (k, l))
led_at [] k l e = absurd (none_some l e)
led_at (x ∷ xs) k l e = led_by x xs k l (same_key x.0 k) refl e (led_at xs k l)

absent_by : (x : Key × ℕ) (xs : List (Key × ℕ)) (k : Key) (b : Bool) → same_key x.0 k ≡ b → cond b (Some x.1) (led xs k) ≡ None → (led xs k ≡ None → (i : ℕ) → slice_get (map (λ z. z.0) xs) i ≡ Some k → ⊥) → (i : ℕ) → slice_get (map (λ z. z.0) (x ∷ xs)) i ≡ Some k → ⊥
absent_by x xs k true s e rest i h = none_some x.1 (sym e)
absent_by x xs k false s e rest zero h = true≢false (sym ((same_key_tells x.0 k).1 (some_is x.0 k h)) ∙ s)
absent_by x xs k false s e rest (suc i) h = rest e i h

pub led_nowhere : (xs : List (Key × ℕ)) (k : Key) → led xs k ≡ None → (i : ℕ) → slice_get (map (λ z. z.0) xs) i ≡ Some k → ⊥
led_nowhere [] k e i h = none_some k h
led_nowhere (x ∷ xs) k e i h = absent_by x xs k (same_key x.0 k) refl e (led_nowhere xs k) i h
