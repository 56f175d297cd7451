-- All costs less by z: the same is chosen.
use Rattle.std.proofs.Common.{◌≡◌, ℕ, zero, suc, ◌+◌, ◌≤◌, Bool, true, false, cond, List, [], ◌∷◌, map, set, Some, None, Option, Ordering, Less, Equal, Greater, sym, refl, ap, ◌∙◌, subst, inl, inr, arith}
use Rattle.std.proofs.lemmas.List.{map-set}
use Rattle.std.specs.Ordering.{is_lt, is_eq, ordering_then, ordering_reverse, nat_cmp}
use Rattle.cost.specs.Model.{Model, Laws}
use Rattle.covers.specs.Ranks.{Rank, Ranks, by_rank, at, better, further, with1, with2, relax, is_rank}
use Rattle.covers.proofs.Order.{cost_order, cases, irrefl, itself}

pub at_map : {A B : Type 0} (f : Option A → Option B) → f None ≡ None → (row : List (Option A)) (n : ℕ) → at (map f row) n ≡ f (at row n)
at_map f e [] n = sym e
at_map f e (o ∷ os) zero = refl
at_map f e (o ∷ os) (suc n) = at_map f e os n

pub cond_map : {A B : Type 0} (f : A → B) (b : Bool) (x y : A) → cond b (f x) (f y) ≡ f (cond b x y)
cond_map f true x y = refl
cond_map f false x y = refl

-- what stands there weighs at most w
abbrev pub Weighs : {C : Type 0} → Model C → ℕ → Option (Rank C) → Type 0
Weighs {C} m w o = (p : Rank C) → o ≡ Some p → m.weight p.0 ≤ w

abbrev pub shift : {C : Type 0} → Model C → C → Option (Rank C) → Option (Rank C)
shift m z None = None
shift m z (Some p) = Some (m.diff p.0 z, p.1)

-- the same with no chain rule
abbrev pub plain : {C : Type 0} → Model C → C → Option (Rank C) → Option (Rank C)
plain m z None = None
plain m z (Some p) = Some (m.diff p.0 z, 0)

module _ {C : Type 0} {m : Model C} (l : Laws m) where
  pub cancel : (a b z : C) → m.weight a + m.weight b + m.weight z ≤ 1000000000 → m.sum a z ≡ m.sum b z → a ≡ b
  cancel a b z w e = elim (cases (cost_order l) a b) [
    | inl h ↦ absurd (irrefl (cost_order l) (m.sum b z) (subst (λ x. m.cmp x (m.sum b z) ≡ Less) e (l.sum_keeps a b z (omega arith) h)))
    | inr (inl h) ↦ h
    | inr (inr h) ↦ absurd (irrefl (cost_order l) (m.sum b z) (subst (λ x. m.cmp (m.sum b z) x ≡ Less) e (l.sum_keeps b a z (omega arith) h)))
  ]

  pub diff_is : (a b z : C) → m.weight a ≤ 420000000 → m.weight b ≤ 210000000 → m.weight z ≤ 140000000 → m.sum a z ≡ b → a ≡ m.diff b z
  diff_is a b z wa wb wz e =
      let w = l.diff_weight b z (omega arith) in
      cancel a (m.diff b z) z (omega arith) (e ∙ sym (l.diff_sum b z (omega arith)))

  -- (a + b) + (c + d) = (a + c) + (b + d)
  four : (a b c d : C) → m.weight a + m.weight b + m.weight c + m.weight d ≤ 1000000000 → m.sum (m.sum a b) (m.sum c d) ≡ m.sum (m.sum a c) (m.sum b d)
  four a b c d w =
      let cd = l.sum_weight c d (omega arith) in
      let bd = l.sum_weight b d (omega arith) in
      l.sum_group a b (m.sum c d) (omega arith)
      ∙ ap (m.sum a) (sym (l.sum_group b c d (omega arith)) ∙ ap (λ x. m.sum x d) (l.sum_swap b c (omega arith)) ∙ l.sum_group c b d (omega arith))
      ∙ sym (l.sum_group a c (m.sum b d) (omega arith))

  pub diff_first : (c x f : C) → m.weight c ≤ 1000 → m.weight x ≤ 66000000 → m.weight f ≤ 66000000 → m.sum c (m.diff x f) ≡ m.diff (m.sum c x) f
  diff_first c x f wc wx wf =
      let d = l.diff_weight x f (omega arith) in
      let s = l.sum_weight c x (omega arith) in
      let t = l.sum_weight c (m.diff x f) (omega arith) in
      diff_is (m.sum c (m.diff x f)) (m.sum c x) f (omega arith) (omega arith) (omega arith) (l.sum_group c (m.diff x f) f (omega arith) ∙ ap (m.sum c) (l.diff_sum x f (omega arith)))

  pub diff_both : (c x y f g : C) → m.weight c ≤ 1000 → m.weight x ≤ 66000000 → m.weight y ≤ 66000000 → m.weight f ≤ 66000000 → m.weight g ≤ 66000000 → m.sum (m.sum c (m.diff x f)) (m.diff y g) ≡ m.diff (m.sum (m.sum c x) y) (m.sum f g)
  diff_both c x y f g wc wx wy wf wg =
      let d = l.diff_weight x f (omega arith) in
      let e = l.diff_weight y g (omega arith) in
      let s = l.sum_weight c x (omega arith) in
      let t = l.sum_weight c (m.diff x f) (omega arith) in
      let u = l.sum_weight (m.sum c x) y (omega arith) in
      let v = l.sum_weight (m.sum c (m.diff x f)) (m.diff y g) (omega arith) in
      let fg = l.sum_weight f g (omega arith) in
      let eq : m.sum (m.sum (m.sum c (m.diff x f)) (m.diff y g)) (m.sum f g) ≡ m.sum (m.sum c x) y =
      four (m.sum c (m.diff x f)) (m.diff y g) f g (omega arith)
      ∙ (λ i. m.sum ((l.sum_group c (m.diff x f) f (omega arith) ∙ ap (m.sum c) (l.diff_sum x f (omega arith))) i) (l.diff_sum y g (omega arith) i)) in
      diff_is (m.sum (m.sum c (m.diff x f)) (m.diff y g)) (m.sum (m.sum c x) y) (m.sum f g) (omega arith) (omega arith) (omega arith) eq

  pub diff_last : (c k z : C) → m.weight c ≤ 100000000 → m.weight k ≤ 1000 → m.weight z ≤ 140000000 → m.sum (m.diff c z) k ≡ m.diff (m.sum c k) z
  diff_last c k z wc wk wz =
      let d = l.diff_weight c z (omega arith) in
      let s = l.sum_weight c k (omega arith) in
      let t = l.sum_weight (m.diff c z) k (omega arith) in
      let eq : m.sum (m.sum (m.diff c z) k) z ≡ m.sum c k =
      l.sum_group (m.diff c z) k z (omega arith) ∙ ap (m.sum (m.diff c z)) (l.sum_swap k z (omega arith)) ∙ sym (l.sum_group (m.diff c z) z k (omega arith)) ∙ ap (λ x. m.sum x k) (l.diff_sum c z (omega arith)) in
      diff_is (m.sum (m.diff c z) k) (m.sum c k) z (omega arith) (omega arith) (omega arith) eq

  -- what is above f is as much above it where both are less by z
  pub diff_diff : (c f z : C) → m.weight c ≤ 66000000 → m.weight f ≤ 66000000 → m.weight z ≤ 140000000 → m.diff (m.diff c z) (m.diff f z) ≡ m.diff c f
  diff_diff c f z wc wf wz =
      let cz = l.diff_weight c z (omega arith) in
      let fz = l.diff_weight f z (omega arith) in
      let cf = l.diff_weight c f (omega arith) in
      let dd = l.diff_weight (m.diff c z) (m.diff f z) (omega arith) in
      let ss = l.sum_weight (m.diff c f) (m.diff f z) (omega arith) in
      let eq : m.sum (m.diff c f) (m.diff f z) ≡ m.diff c z =
      diff_is (m.sum (m.diff c f) (m.diff f z)) c z (omega arith) (omega arith) (omega arith) (l.sum_group (m.diff c f) (m.diff f z) z (omega arith) ∙ ap (m.sum (m.diff c f)) (l.diff_sum f z (omega arith)) ∙ l.diff_sum c f (omega arith)) in
      cancel (m.diff (m.diff c z) (m.diff f z)) (m.diff c f) (m.diff f z) (omega arith) (l.diff_sum (m.diff c z) (m.diff f z) (omega arith) ∙ sym eq)

  module _ (z : C) (wz : m.weight z ≤ 140000000) where
    cmp_by : (a b : C) (r : Ordering) → m.weight a ≤ 100000000 → m.weight b ≤ 100000000 → m.cmp (m.diff a z) (m.diff b z) ≡ r → r ≡ m.cmp a b
    cmp_by a b Less wa wb e =
        let u = l.diff_weight a z (omega arith) in
        let v = l.diff_weight b z (omega arith) in
        let k : m.cmp (m.sum (m.diff a z) z) (m.sum (m.diff b z) z) ≡ Less = l.sum_keeps (m.diff a z) (m.diff b z) z (omega arith) e in
        sym k ∙ (λ i. m.cmp (l.diff_sum a z (omega arith) i) (l.diff_sum b z (omega arith) i))
    cmp_by a b Equal wa wb e =
        let same : a ≡ b = sym (l.diff_sum a z (omega arith)) ∙ ap (λ x. m.sum x z) (l.cmp_same (m.diff a z) (m.diff b z) e) ∙ l.diff_sum b z (omega arith) in
        sym (itself (cost_order l) a) ∙ ap (m.cmp a) same
    cmp_by a b Greater wa wb e =
        let u = l.diff_weight a z (omega arith) in
        let v = l.diff_weight b z (omega arith) in
        let turned : m.cmp (m.diff b z) (m.diff a z) ≡ Less = l.cmp_flip (m.diff b z) (m.diff a z) ∙ ap ordering_reverse e in
        let k : m.cmp (m.sum (m.diff b z) z) (m.sum (m.diff a z) z) ≡ Less = l.sum_keeps (m.diff b z) (m.diff a z) z (omega arith) turned in
        let back : m.cmp b a ≡ Less = sym (λ i. m.cmp (l.diff_sum b z (omega arith) i) (l.diff_sum a z (omega arith) i)) ∙ k in
        sym (l.cmp_flip a b ∙ ap ordering_reverse back)

    pub cmp_shift : (a b : C) → m.weight a ≤ 100000000 → m.weight b ≤ 100000000 → m.cmp (m.diff a z) (m.diff b z) ≡ m.cmp a b
    cmp_shift a b wa wb = cmp_by a b (m.cmp (m.diff a z) (m.diff b z)) wa wb refl

    pub rank_shift : (a b : Rank C) → m.weight a.0 ≤ 100000000 → m.weight b.0 ≤ 100000000 → by_rank m (m.diff a.0 z, a.1) (m.diff b.0 z, b.1) ≡ by_rank m a b
    rank_shift a b wa wb = ap (λ x. ordering_then x (nat_cmp a.1 b.1)) (cmp_shift a.0 b.0 wa wb)

    pub better_shift : (o n : Option (Rank C)) → Weighs m 100000000 o → Weighs m 100000000 n → better m (shift m z o) (shift m z n) ≡ shift m z (better m o n)
    better_shift o None wo wn = refl
    better_shift None (Some q) wo wn = refl
    better_shift (Some p) (Some q) wo wn = ap (λ x. cond (is_lt x) (shift m z (Some q)) (shift m z (Some p))) (rank_shift q p (wn q refl) (wo p refl)) ∙ cond_map (shift m z) (is_lt (by_rank m q p)) (Some q) (Some p)

    pub relax_shift : (row : Ranks C) (n : ℕ) (o : Option (Rank C)) → Weighs m 100000000 (at row n) → Weighs m 100000000 o → relax m (map (shift m z) row) n (shift m z o) ≡ map (shift m z) (relax m row n o)
    relax_shift row n o w v = ap (λ x. set (map (shift m z) row) n x) (ap (λ x. better m x (shift m z o)) (at_map (shift m z) refl row n) ∙ better_shift (at row n) o w v) ∙ sym (map-set (shift m z) row n (better m (at row n) o))

    pub further_shift : (c : C) (o : Option (Rank C)) → m.weight c ≤ 1000 → Weighs m 80000000 o → further m c (shift m z o) ≡ shift m z (further m c o)
    further_shift c None wc w = refl
    further_shift c (Some p) wc w = (let wp = w p refl in λ i. Some (diff_last p.0 c z (omega arith) wc wz i, suc p.1))

    pub is_rank_shift : (p : Rank C) (o : Option (Rank C)) → m.weight p.0 ≤ 100000000 → Weighs m 100000000 o → is_rank m (m.diff p.0 z, p.1) (shift m z o) ≡ is_rank m p o
    is_rank_shift p None wp w = refl
    is_rank_shift p (Some q) wp w = ap is_eq (rank_shift q p (w q refl) wp)

  pub with1_plain : (c f : C) (o : Option (Rank C)) → m.weight c ≤ 1000 → m.weight f ≤ 66000000 → Weighs m 66000000 o → with1 m c (plain m f o) ≡ shift m f (with1 m c o)
  with1_plain c f None wc wf w = refl
  with1_plain c f (Some x) wc wf w = λ i. Some (diff_first c x.0 f wc (w x refl) wf i, 0)

  pub with2_plain : (c f g : C) (o u : Option (Rank C)) → m.weight c ≤ 1000 → m.weight f ≤ 66000000 → m.weight g ≤ 66000000 → Weighs m 66000000 o → Weighs m 66000000 u → with2 m c (plain m f o) (plain m g u) ≡ shift m (m.sum f g) (with2 m c o u)
  with2_plain c f g None u wc wf wg w v = refl
  with2_plain c f g (Some x) None wc wf wg w v = refl
  with2_plain c f g (Some x) (Some y) wc wf wg w v = λ i. Some (diff_both c x.0 y.0 f g wc (w x refl) (v y refl) wf wg i, 0)
