-- One rule more in a pass over the rules.
use Rattle.std.proofs.Common.{◌≡◌, ℕ, zero, suc, ◌+◌, ◌<◌, ◌≤◌, List, [], ◌∷◌, ◌++◌, map, length, get_or, take, Some, None, Option, sym, refl, ap, ◌∙◌, arith}
use Rattle.std.proofs.lemmas.List.{length-map, length-take-le, take_all, map_more}
use Rattle.cost.specs.Model.{Model}
use Rattle.grammar.specs.Lists.{RuleOf}
use Rattle.grammar.specs.Views.{rule_of}
use Rattle.grammar.specs.declared.parts.Rule.{Rule}
use Rattle.covers.specs.Ranks.{Rank, Best}
use Rattle.row.specs.Kept.{keep, keep_given, pass, times}

module _ {C : Type 0} (m : Model C) (f : List (Option (Best C)) → RuleOf C → Option (Rank C)) where
  pass_end : (xs : List (Option (Best C))) (r : ℕ) (bs : List (RuleOf C)) (ρ : RuleOf C) → pass m f xs r (bs ++ ρ ∷ []) ≡ keep_given m (pass m f xs r bs) ρ.left (r + length bs) (f (pass m f xs r bs) ρ)
  pass_end xs r [] ρ = (let e : r ≡ r + 0 = omega arith in ap (λ z. keep_given m xs ρ.left z (f xs ρ)) e)
  pass_end xs r (a ∷ bs) ρ =
      let ys = pass m f xs r (a ∷ bs) in
      let e : suc r + length bs ≡ r + suc (length bs) = omega arith in
      pass_end (keep_given m xs a.left r (f xs a)) (suc r) bs ρ ∙ ap (λ z. keep_given m ys ρ.left z (f ys ρ)) e

  -- the pass over the first i rules
  abbrev pub front : List (Option (Best C)) → List (Rule C) → ℕ → List (Option (Best C))
  front xs ks i = pass m f xs 1 (map rule_of (take i ks))

  pass_rule : (xs : List (Option (Best C))) (ks : List (Rule C)) (i : ℕ) (k : Rule C) → i < length ks → k ≡ get_or ks i k → front xs ks (i + 1) ≡ keep_given m (front xs ks i) k.left.0 (i + 1) (f (front xs ks i) (rule_of k))
  pass_rule xs ks i k h e =
      let bs = map rule_of (take i ks) in
      let long : length bs ≡ i = length-map (take i ks) rule_of ∙ length-take-le i ks (omega arith) in
      let number : 1 + length bs ≡ i + 1 = omega arith in
      ap (pass m f xs 1) (map_more rule_of ks i k h ∙ ap (λ z. bs ++ rule_of z ∷ []) (sym e)) ∙ pass_end xs 1 bs (rule_of k) ∙ ap (λ z. keep_given m (front xs ks i) k.left.0 z (f (front xs ks i) (rule_of k))) number

  -- where the rule gives p, and where it gives nothing
  pub pass_takes : (xs : List (Option (Best C))) (ks : List (Rule C)) (i : ℕ) (k : Rule C) (was now : List (Option (Best C))) (p : Rank C) → i < length ks → k ≡ get_or ks i k → was ≡ front xs ks i → f was (rule_of k) ≡ Some p → now ≡ keep m was k.left.0 (p.0, p.1, i + 1) → now ≡ front xs ks (i + 1)
  pass_takes xs ks i k was now p h e w g n =
      n ∙ ap (keep_given m was k.left.0 (i + 1)) (sym g) ∙ ap (λ z. keep_given m z k.left.0 (i + 1) (f z (rule_of k))) w ∙ sym (pass_rule xs ks i k h e)

  pub pass_skips : (xs : List (Option (Best C))) (ks : List (Rule C)) (i : ℕ) (k : Rule C) (was : List (Option (Best C))) → i < length ks → k ≡ get_or ks i k → was ≡ front xs ks i → f was (rule_of k) ≡ None → was ≡ front xs ks (i + 1)
  pass_skips xs ks i k was h e w g =
      ap (keep_given m was k.left.0 (i + 1)) (sym g) ∙ ap (λ z. keep_given m z k.left.0 (i + 1) (f z (rule_of k))) w ∙ sym (pass_rule xs ks i k h e)

  pub pass_all : (xs now : List (Option (Best C))) (ks : List (Rule C)) (i : ℕ) → i ≡ length ks → now ≡ front xs ks i → now ≡ pass m f xs 1 (map rule_of ks)
  pass_all xs now ks i h e = e ∙ ap (λ z. pass m f xs 1 (map rule_of z)) (take_all i ks (omega arith))

-- ---- doing a thing several times

pub times_more : {A : Type 0} (f : A → A) (k : ℕ) (x : A) → times f (k + 1) x ≡ f (times f k x)
times_more f zero x = refl
times_more f (suc k) x =
    let e : suc k + 1 ≡ suc (k + 1) = omega arith in
    ap (λ z. times f z x) e ∙ times_more f k (f x)

pub times_fixed : {A : Type 0} (f : A → A) (k : ℕ) (x : A) → f x ≡ x → times f k x ≡ x
times_fixed f zero x e = refl
times_fixed f (suc k) x e = ap (times f k) e ∙ times_fixed f k x e

pub times_split : {A : Type 0} (f : A → A) (j k : ℕ) (x : A) → times f (j + k) x ≡ times f k (times f j x)
times_split f zero k x = (let e : 0 + k ≡ k = omega arith in ap (λ z. times f z x) e)
times_split f (suc j) k x = (let e : suc j + k ≡ suc (j + k) = omega arith in ap (λ z. times f z x) e ∙ times_split f j k (f x))

-- a time that changes nothing is the last that is needed
pub times_stop : {A : Type 0} (f : A → A) (j n : ℕ) (x y : A) → j ≤ n → y ≡ times f j x → f y ≡ y → y ≡ times f n x
times_stop f j n x y h e s =
    let k : ℕ = Prim.Native.Nat.◌-◌ n j in
    let split : j + k ≡ n = omega arith in
    sym (times_fixed f k y s) ∙ ap (times f k) e ∙ sym (times_split f j k x) ∙ ap (λ z. times f z x) split
