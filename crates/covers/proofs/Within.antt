-- The laws of costs and ranks of which none weighs more than `fair`.
use Rattle.std.proofs.Common.{◌≡◌, ℕ, suc, ◌<◌, ◌≤◌, ◌⊎◌, Ordering, Less, Equal, Greater, sym, refl, ap, ◌∙◌, subst, inl, inr, true≢false, arith}
use Rattle.std.specs.Ordering.{ordering_then, is_lt, is_gt, ordering_reverse, nat_cmp}
use Rattle.cost.specs.Model.{Model, Laws}
use Rattle.covers.specs.Ranks.{Rank, by_rank, up}
use Rattle.covers.proofs.Order.{Lt, Le, cost_order, rank_order, itself, le_kept, less_rank, rank_less}

-- the bound of each cost that a law is used at
abbrev pub fair : ℕ
fair = 80000000

abbrev pub Fair : {C : Type 0} → Model C → C → Type 0
Fair m c = m.weight c ≤ fair

-- a cost that a rule may have
pub record RuleCost {C : Type 0} (m : Model C) (c : C) : Type 0 where
  pub from_zero : m.cmp c m.zero ≡ Less → ⊥
  pub light : m.weight c ≤ 1000

module _ {C : Type 0} {m : Model C} (l : Laws m) where
  pub sum_lt : (a b c : C) → Fair m a → Fair m b → Fair m c → Lt m.cmp a b → Lt m.cmp (m.sum a c) (m.sum b c)
  sum_lt a b c f g h k = l.sum_keeps a b c (omega arith) k

  pub sum_le : (a b c : C) → Fair m a → Fair m b → Fair m c → Le m.cmp a b → Le m.cmp (m.sum a c) (m.sum b c)
  sum_le a b c f g h k = le_kept (cost_order l) (cost_order l) (λ z. m.sum z c) a b (sum_lt a b c f g h) k

  pub sum_le_right : (a b c : C) → Fair m a → Fair m b → Fair m c → Le m.cmp a b → Le m.cmp (m.sum c a) (m.sum c b)
  sum_le_right a b c f g h k = subst (λ z. Le m.cmp z (m.sum c b)) (l.sum_swap a c (omega arith)) (subst (λ z. Le m.cmp (m.sum a c) z) (l.sum_swap b c (omega arith)) (sum_le a b c f g h k))

  up_lt_by : (a b : Rank C) (c : C) (r : Ordering) → Fair m a.0 → Fair m b.0 → Fair m c → m.cmp a.0 b.0 ≡ r → ordering_then r (nat_cmp a.1 b.1) ≡ Less → by_rank m (up m c a) (up m c b) ≡ Less
  up_lt_by a b c Less f g h e k = ap (λ z. ordering_then z (nat_cmp (suc a.1) (suc b.1))) (sum_lt a.0 b.0 c f g h e)
  up_lt_by a b c Equal f g h e k = ap (λ z. ordering_then z (nat_cmp (suc a.1) (suc b.1))) (subst (λ z. m.cmp (m.sum a.0 c) (m.sum z c) ≡ Equal) (l.cmp_same a.0 b.0 e) (itself (cost_order l) (m.sum a.0 c))) ∙ less_rank (suc a.1) (suc b.1) (omega (arith, rank_less a.1 b.1 k))
  up_lt_by a b c Greater f g h e k = absurd (true≢false (ap is_gt k))

  pub up_lt : (a b : Rank C) (c : C) → Fair m a.0 → Fair m b.0 → Fair m c → Lt (by_rank m) a b → Lt (by_rank m) (up m c a) (up m c b)
  up_lt a b c f g h k = up_lt_by a b c (m.cmp a.0 b.0) f g h refl k

  pub up_le : (a b : Rank C) (c : C) → Fair m a.0 → Fair m b.0 → Fair m c → Le (by_rank m) a b → Le (by_rank m) (up m c a) (up m c b)
  up_le a b c f g h k = le_kept (rank_order l) (rank_order l) (up m c) a b (up_lt a b c f g h) k

  -- a sum with a price is not below
  pub sum_grows : (a c : C) → Fair m a → RuleCost m c → Le m.cmp a (m.sum a c)
  sum_grows a c f p =
      let w : Fair m m.zero = omega (arith, l.zero_weight) in
      let h : Le m.cmp (m.sum a m.zero) (m.sum a c) = sum_le_right m.zero c a w (omega (arith, p.light)) f p.from_zero in
      subst (λ z. Le m.cmp z (m.sum a c)) (l.sum_zero a (omega arith)) h

  up_grows_by : (a : Rank C) (c : C) (r : Ordering) → m.cmp a.0 (m.sum a.0 c) ≡ r → Le m.cmp a.0 (m.sum a.0 c) → by_rank m a (up m c a) ≡ Less
  up_grows_by a c Less e h = ap (λ z. ordering_then z (nat_cmp a.1 (suc a.1))) e
  up_grows_by a c Equal e h = ap (λ z. ordering_then z (nat_cmp a.1 (suc a.1))) e ∙ less_rank a.1 (suc a.1) (omega arith)
  up_grows_by a c Greater e h = absurd (h (l.cmp_flip (m.sum a.0 c) a.0 ∙ ap ordering_reverse e))

  pub up_grows : (a : Rank C) (c : C) → Fair m a.0 → RuleCost m c → Lt (by_rank m) a (up m c a)
  up_grows a c f p = up_grows_by a c (m.cmp a.0 (m.sum a.0 c)) refl (sum_grows a.0 c f p)

  -- of ranks, the cost counts first
  rank_cost_by : (a b : Rank C) (r : Ordering) → m.cmp b.0 a.0 ≡ r → Le (by_rank m) a b → r ≡ Less → ⊥
  rank_cost_by a b Less e h k = h (ap (λ z. ordering_then z (nat_cmp b.1 a.1)) e)
  rank_cost_by a b Equal e h k = true≢false (sym (ap is_lt k))
  rank_cost_by a b Greater e h k = true≢false (sym (ap is_lt k))

  pub rank_cost : (a b : Rank C) → Le (by_rank m) a b → Le m.cmp a.0 b.0
  rank_cost a b h k = rank_cost_by a b (m.cmp b.0 a.0) refl h k

  -- and at one cost the number
  pub rank_count : (a b : Rank C) → a.0 ≡ b.0 → Le (by_rank m) a b → a.1 ≤ b.1
  rank_count a b e h = elim (below b.1 a.1) [ inl k ↦ absurd (h (ap (λ z. ordering_then z (nat_cmp b.1 a.1)) (subst (λ z. m.cmp b.0 z ≡ Equal) (sym e) (itself (cost_order l) b.0)) ∙ less_rank b.1 a.1 k)) | inr k ↦ k ]
    where
      below : (x y : ℕ) → (x < y) ⊎ (y ≤ x)
      below = Rattle.std.proofs.lemmas.Bool.cases_lt
