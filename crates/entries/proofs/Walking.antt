-- Walks: a row's end determines the row, and more entries leave the end.
use Rattle.std.proofs.Common.{◌≡◌, ℕ, suc, ◌+◌, List, [], ◌∷◌, ◌++◌, length, get_or, Some, None, Option, sym, refl, ap, ◌∙◌, arith}
use Rattle.std.proofs.lemmas.List.{append-nil}
use Rattle.std.proofs.lemmas.Option.{slice_get-get_or}
use Rattle.std.specs.List.{slice_get}
use Rattle.std.specs.Option.{option_map}
use Rattle.cost.specs.Model.{Model, Laws}
use Rattle.covers.specs.Rows.{Row}
use Rattle.covers.proofs.Relaxing.{some_is, none_some}
use Rattle.table.specs.Keys.{place_of}
use Rattle.table.proofs.Places.{place_held, place_push_held}
use Rattle.entries.specs.declared.Entry.{Entry}
use Rattle.entries.specs.Keys.{stands, as_choice, entry_after, entry_key}
use Rattle.entries.specs.Walks.{onward, walk, before_of, choice_in, back}
use Rattle.entries.specs.Laws.{entry_tells}

pub onward_some : {A B : Type 0} (o : Option A) (f : A → Option B) (y : B) → onward o f ≡ Some y → (x : A) × (o ≡ Some x) × (f x ≡ Some y)
onward_some None f y e = absurd (none_some y e)
onward_some (Some x) f y e = (x, refl, e)

pub stands_back : {C : Type 0} (x : Option (ℕ × C)) → stands (option_map as_choice x) ≡ x
stands_back None = refl
stands_back (Some x) = refl

module _ {C : Type 0} {m : Model C} (l : Laws m) where
  -- what is found stands at its place
  pub found_at : (es : List (Entry C)) (e : Entry C) (p : ℕ) → place_of (entry_key m) es e ≡ Some p → slice_get es p ≡ Some e
  found_at es e p h =
      let k = place_held (entry_key m) es e p h in
      slice_get-get_or es p e k.0 ∙ ap (λ x. Some x) (entry_tells l (get_or es p e) e (k.1 e))

  -- a row is read back from the end of its walk
  pub back_walk : (es : List (Entry C)) (xs : Row C) (n k : ℕ) (b e : Option ℕ) (ys : Row C) → n ≡ length xs + k
      → walk m es b xs ≡ Some e → back es n e ys ≡ back es k b (xs ++ ys)
  back_walk es [] n k b e ys z h =
      let i : n ≡ k = omega arith in
      let j : e ≡ b = sym (some_is b e h) in
      λ t. back es (i t) (j t) ys
  back_walk es (x ∷ xs) n k b e ys z h =
      let q = onward_some (place_of (entry_key m) es (entry_after b x)) (λ p. walk m es (Some p) xs) e h in
      let i : n ≡ length xs + suc k = omega arith in
      back_walk es xs n (suc k) (Some q.0) e ys i q.2
      ∙ ap (λ o. back es k (before_of o) (choice_in o ∷ (xs ++ ys))) (found_at es (entry_after b x) q.0 q.1)
      ∙ ap (λ o. back es k b (o ∷ (xs ++ ys))) (stands_back x)

  -- a row's end determines the row
  pub walk_once : (es : List (Entry C)) (xs ys : Row C) (e : Option ℕ) → length xs ≡ length ys → walk m es None xs ≡ Some e
      → walk m es None ys ≡ Some e → xs ≡ ys
  walk_once es xs ys e z h k =
      let i : length xs ≡ length xs + 0 = omega arith in
      let j : length xs ≡ length ys + 0 = omega arith in
      sym (append-nil xs) ∙ sym (back_walk es xs (length xs) 0 None e [] i h) ∙ back_walk es ys (length xs) 0 None e [] j k ∙ append-nil ys

module _ {C : Type 0} (m : Model C) where
  -- one more entry leaves the end
  pub walk_push : (es : List (Entry C)) (k : Entry C) (b : Option ℕ) (xs : Row C) (e : Option ℕ) → walk m es b xs ≡ Some e
      → walk m (es ++ k ∷ []) b xs ≡ Some e
  walk_push es k b [] e h = h
  walk_push es k b (x ∷ xs) e h =
      let q = onward_some (place_of (entry_key m) es (entry_after b x)) (λ p. walk m es (Some p) xs) e h in
      ap (λ o. onward o (λ p. walk m (es ++ k ∷ []) (Some p) xs)) (place_push_held (entry_key m) es k (entry_after b x) q.0 q.1)
      ∙ walk_push es k (Some q.0) xs e q.2

  -- the last step of a walk
  pub walk_last : (es : List (Entry C)) (b : Option ℕ) (xs : Row C) (y : Option (ℕ × C)) (c : Option ℕ) → walk m es b xs ≡ Some c
      → walk m es b (xs ++ y ∷ []) ≡ onward (place_of (entry_key m) es (entry_after c y)) (λ p. Some (Some p))
  walk_last es b [] y c h = ap (λ z. onward (place_of (entry_key m) es (entry_after z y)) (λ p. Some (Some p))) (some_is b c h)
  walk_last es b (x ∷ xs) y c h =
      let q = onward_some (place_of (entry_key m) es (entry_after b x)) (λ p. walk m es (Some p) xs) c h in
      ap (λ o. onward o (λ p. walk m es (Some p) (xs ++ y ∷ []))) q.1 ∙ walk_last es (Some q.0) xs y c q.2

  -- a walk that goes all the way goes to its last step
  pub walk_front : (es : List (Entry C)) (b : Option ℕ) (xs : Row C) (y : Option (ℕ × C)) (e : Option ℕ)
      → walk m es b (xs ++ y ∷ []) ≡ Some e → (c : Option ℕ) × (walk m es b xs ≡ Some c)
  walk_front es b [] y e h = (b, refl)
  walk_front es b (x ∷ xs) y e h =
      let q = onward_some (place_of (entry_key m) es (entry_after b x)) (λ p. walk m es (Some p) (xs ++ y ∷ [])) e h in
      let r = walk_front es (Some q.0) xs y e q.2 in
      (r.0, ap (λ o. onward o (λ p. walk m es (Some p) xs)) q.1 ∙ r.1)
