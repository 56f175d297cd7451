-- `==` is exact of a pair, an option and a list where it is exact of the parts.
use Rattle.std.specs.Prelude.{◌≡◌, Bool, true, false, ◌&&◌, List, is_some, Some, None, Decides, Option, refl}
use Rattle.std.proofs.Common.{sym, ap, subst, true≢false}
use Rattle.std.specs.Option.{option_eq}
use Rattle.std.specs.Cmp.Lexicographic.{pointwise}
use Rattle.std.proofs.lemmas.Slice.Eq.{slice_eq-Decides}
use Rattle.cost.specs.Model.{Exact}
use Rattle.cost.specs.declared.Pair.{Pair}

module _ {A B : Type 0} {E : A → A → Bool} {F : B → B → Bool} (p : Exact (λ a b r. r ≡ E a b)) (q : Exact (λ a b r. r ≡ F a b)) where
  parts : (x y : Pair A B) (s t : Bool) → Decides s (x.first ≡ y.first) → Decides t (x.second ≡ y.second) → Decides (s && t) (x ≡ y)
  parts x y true t d e = (λ w i. record { first = d.0 refl i; second = e.0 w i }, λ w. e.1 (ap (λ z. z.second) w))
  parts x y false t d e = (λ w. absurd (true≢false (sym w)), λ w. absurd (true≢false (sym (d.1 (ap (λ z. z.first) w)))))

  -- the `==` that is derived for a pair
  pub exact_pair : Exact (λ (x y : Pair A B) (r : Bool). r ≡ (E x.first y.first && F x.second y.second))
  exact_pair x y r h =
      subst (λ t. Decides t (x ≡ y)) (sym h) (parts x y (E x.first y.first) (F x.second y.second) (p x.first y.first _ refl) (q x.second y.second _ refl))

module _ {C : Type 0} {E : C → C → Bool} (e : Exact (λ a b r. r ≡ E a b)) where
  decides : (a b : C) → Decides (E a b) (a ≡ b)
  decides a b = e a b (E a b) refl

  options : (o p : Option C) → Decides (option_eq E o p) (o ≡ p)
  options None None = (λ _. refl, λ _. refl)
  options None (Some y) = (λ t. absurd (true≢false (sym t)), λ k. absurd (true≢false (sym (ap is_some k))))
  options (Some x) None = (λ t. absurd (true≢false (sym t)), λ k. absurd (true≢false (ap is_some k)))
  options (Some x) (Some y) =
      let back : Some x ≡ Some y → x ≡ y = λ k. cc in
      (λ t. ap Some ((decides x y).0 t), λ k. (decides x y).1 (back k))

  -- the `==` of an option
  pub exact_option : Exact (λ (o p : Option C) (r : Bool). r ≡ option_eq E o p)
  exact_option o p r h = subst (λ t. Decides t (o ≡ p)) (sym h) (options o p)

  -- the `==` of slices
  pub exact_list : Exact (λ (xs ys : List C) (r : Bool). r ≡ pointwise E xs ys)
  exact_list xs ys r h = slice_eq-Decides decides xs ys r h
