-- The base rules over the kids' ranks come to the least costs of covers without chain rules at the root.
use Rattle.std.proofs.Common.{◌≡◌, ℕ, zero, suc, ◌*◌, ◌<◌, ◌≤◌, Bool, true, false, cond, eqb, List, [], ◌∷◌, length, replicate, Some, None, Option, Ordering, Less, Equal, Greater, sym, refl, ap, ◌∙◌, subst, inl, inr, true≢false, arith}
use Rattle.std.proofs.lemmas.List.{length-set, length-replicate}
use Rattle.std.proofs.lemmas.Bool.{eqb-true, eq-eqb}
use Rattle.std.specs.List.{slice_get}
use Rattle.std.specs.Ordering.{ordering_then, is_lt, nat_cmp}
use Rattle.cost.specs.Model.{Model, Laws}
use Rattle.grammar.specs.Lists.{FormOf, chain, base0, base1, base2, RuleOf, Lists, rule, Sealed}
use Rattle.covers.specs.Trees.{leaf, unary, binary, count, Tree, node0, node1, node2, size}
use Rattle.covers.specs.Covers.{cost_or_zero, Cover, Covers, cover_cost}
use Rattle.covers.specs.Ranks.{Rank, Ranks, by_rank, at, better, relax, with1, with2, base_offer, bases, kid_ranks, ranks_of}
use Rattle.covers.proofs.Order.{Le, rank_order, cost_order, le_refl, le_trans, rank_less}
use Rattle.covers.proofs.Within.{Fair, sum_le, sum_le_right, rank_cost}
use Rattle.covers.proofs.Relaxing.{Under, some_is, none_some, relax_old, relax_new, relax_is}
use Rattle.covers.proofs.Closure.{number_at, Numbered}
use Rattle.covers.proofs.BaseParts.{BaseCover, rank_of, cover_weight}

-- a row is right of t
pub record RightRanks {C : Type 0} (m : Model C) (G : Lists C) (t : Tree) (row : Ranks C) : Type 0 where
  pub held : (n : ℕ) (q : Rank C) → at row n ≡ Some q → (k : Cover) × Covers G k t n × (rank_of m G k ≡ q)
  pub least : (k : Cover) (n : ℕ) → Covers G k t n → Under m (at row n) (rank_of m G k)

abbrev pub KidsRight : {C : Type 0} → Model C → Lists C → Tree → Type 0
KidsRight m G (node0 op p) = Unit {0}
KidsRight m G (node1 op p t) = RightRanks m G t (ranks_of m G t)
KidsRight m G (node2 op p t u) = RightRanks m G t (ranks_of m G t) × RightRanks m G u (ranks_of m G u)

pub cond_some : {A : Type 0} (b : Bool) (o : Option A) (q : A) → cond b o None ≡ Some q → (b ≡ true) × (o ≡ Some q)
cond_some true o q h = (refl, h)
cond_some false o q h = absurd (none_some q h)

pub with1_some : {C : Type 0} (m : Model C) (c : C) (o : Option (Rank C)) (q : Rank C) → with1 m c o ≡ Some q → (x : Rank C) × (o ≡ Some x) × (◌≡◌ {A = Rank C} (m.sum c x.0, 0) q)
with1_some m c None q h = absurd (none_some q h)
with1_some m c (Some x) q h = (x, refl, some_is (m.sum c x.0, 0) q h)

pub with2_some : {C : Type 0} (m : Model C) (c : C) (o u : Option (Rank C)) (q : Rank C) → with2 m c o u ≡ Some q → (x y : Rank C) × (o ≡ Some x) × (u ≡ Some y) × (◌≡◌ {A = Rank C} (m.sum (m.sum c x.0) y.0, 0) q)
with2_some m c None u q h = absurd (none_some q h)
with2_some m c (Some x) None q h = absurd (none_some q h)
with2_some m c (Some x) (Some y) q h = (x, y, refl, refl, some_is (m.sum (m.sum c x.0) y.0, 0) q h)

module _ {C : Type 0} {m : Model C} (l : Laws m) where
  cost_rank_by : (a b : C) (d : ℕ) (r : Ordering) → m.cmp b a ≡ r → Le m.cmp a b → ordering_then r (nat_cmp d d) ≡ Less → ⊥
  cost_rank_by a b d Less e h k = h e
  cost_rank_by a b d Equal e h k = (let z = rank_less d d k in omega arith)
  cost_rank_by a b d Greater e h k = true≢false (sym (ap is_lt k))

  pub cost_rank : (a b : C) (d : ℕ) → Le m.cmp a b → Le (by_rank m) (a, d) (b, d)
  cost_rank a b d h k = cost_rank_by a b d (m.cmp b a) refl h k

  under1 : (c : C) (o : Option (Rank C)) (q : Rank C) → Fair m c → ((x : Rank C) → o ≡ Some x → Fair m x.0) → Fair m q.0 → Under m o q → Under m (with1 m c o) (m.sum c q.0, 0)
  under1 c None q w f g u = u
  under1 c (Some x) q w f g u = cost_rank (m.sum c x.0) (m.sum c q.0) 0 (sum_le_right l x.0 q.0 c (f x refl) g w (rank_cost l x q u))

  under2 : (c : C) (o v : Option (Rank C)) (q s : Rank C) → m.weight c ≤ 1000 → ((x : Rank C) → o ≡ Some x → m.weight x.0 ≤ 65536000) → ((x : Rank C) → v ≡ Some x → m.weight x.0 ≤ 65536000) → m.weight q.0 ≤ 65536000 → m.weight s.0 ≤ 65536000 → Under m o q → Under m v s → Under m (with2 m c o v) (m.sum (m.sum c q.0) s.0, 0)
  under2 c None v q s w f g h k u y = u
  under2 c (Some x) None q s w f g h k u y = y
  under2 c (Some x) (Some z) q s w f g h k u y =
      let fx = f x refl in
      let gz = g z refl in
      let one : Le m.cmp (m.sum c x.0) (m.sum c q.0) = sum_le_right l x.0 q.0 c (omega arith) (omega arith) (omega arith) (rank_cost l x q u) in
      let wx = l.sum_weight c x.0 (omega arith) in
      let wq = l.sum_weight c q.0 (omega arith) in
      let two : Le m.cmp (m.sum (m.sum c x.0) z.0) (m.sum (m.sum c q.0) z.0) = sum_le l (m.sum c x.0) (m.sum c q.0) z.0 (omega arith) (omega arith) (omega arith) one in
      let three : Le m.cmp (m.sum (m.sum c q.0) z.0) (m.sum (m.sum c q.0) s.0) = sum_le_right l z.0 s.0 (m.sum c q.0) (omega arith) (omega arith) (omega arith) (rank_cost l z s y) in
      cost_rank (m.sum (m.sum c x.0) z.0) (m.sum (m.sum c q.0) s.0) 0 (le_trans (cost_order l) (m.sum (m.sum c x.0) z.0) (m.sum (m.sum c q.0) z.0) (m.sum (m.sum c q.0) s.0) two three)

  module _ {G : Lists C} (sealed : Sealed m G) where
    pub right_light : (t : Tree) (row : Ranks C) → RightRanks m G t row → size t ≤ 2048 → (n : ℕ) (q : Rank C) → at row n ≡ Some q → m.weight q.0 ≤ 65536000
    right_light t row s h n q e =
        let k = s.held n q e in
        let w : m.weight q.0 ≤ 32000 * size t = subst (λ z. m.weight z.0 ≤ 32000 * size t) k.2 (cover_weight l sealed t k.0 n h k.1) in
        omega arith

    -- what a base rule gives is the cost of such a cover
    pub offer_base_cover : (t : Tree) → KidsRight m G t → (r : ℕ) (ρ : RuleOf C) → rule G r ≡ Some ρ → (sh : FormOf) → ρ.form ≡ sh → (q : Rank C) → base_offer m (kid_ranks m G t) ρ.cost sh ≡ Some q → (q.1 ≡ 0) × BaseCover m G t ρ.left q.0
    offer_base_cover (node0 op p) kids r ρ stands (chain x) formed q h = absurd (none_some q h)
    offer_base_cover (node1 op p t) kids r ρ stands (chain x) formed q h = absurd (none_some q h)
    offer_base_cover (node2 op p t u) kids r ρ stands (chain x) formed q h = absurd (none_some q h)
    offer_base_cover (node0 op p) kids r ρ stands (base0 o) formed q h =
        let c = cond_some (eqb o op) (Some (ρ.cost, 0)) q h in
        let e : ◌≡◌ {A = Rank C} (ρ.cost, 0) q = some_is (ρ.cost, 0) q c.1 in
        (sym (ap (λ z. z.1) e), (r, record { ρ = ρ; stands = stands; from = refl; formed = formed ∙ ap base0 (eqb-true o op c.0) }, ap (cost_or_zero m) stands ∙ ap (λ z. z.0) e))
    offer_base_cover (node1 op p t) kids r ρ stands (base0 o) formed q h = absurd (none_some q h)
    offer_base_cover (node2 op p t u) kids r ρ stands (base0 o) formed q h = absurd (none_some q h)
    offer_base_cover (node0 op p) kids r ρ stands (base1 o a) formed q h = absurd (none_some q h)
    offer_base_cover (node1 op p t) kids r ρ stands (base1 o a) formed q h =
        let c = cond_some (eqb o op) (with1 m ρ.cost (at (ranks_of m G t) a)) q h in
        let w = with1_some m ρ.cost (at (ranks_of m G t) a) q c.1 in
        let k = kids.held a w.0 w.1 in
        (sym (ap (λ z. z.1) w.2), (r, a, k.0, record { ρ = ρ; stands = stands; from = refl; formed = formed ∙ ap (λ z. base1 z a) (eqb-true o op c.0) }, k.1, (λ i. m.sum (cost_or_zero m (stands i)) (k.2 i).0) ∙ ap (λ z. z.0) w.2))
    offer_base_cover (node2 op p t u) kids r ρ stands (base1 o a) formed q h = absurd (none_some q h)
    offer_base_cover (node0 op p) kids r ρ stands (base2 o a b) formed q h = absurd (none_some q h)
    offer_base_cover (node1 op p t) kids r ρ stands (base2 o a b) formed q h = absurd (none_some q h)
    offer_base_cover (node2 op p t u) kids r ρ stands (base2 o a b) formed q h =
        let c = cond_some (eqb o op) (with2 m ρ.cost (at (ranks_of m G t) a) (at (ranks_of m G u) b)) q h in
        let w = with2_some m ρ.cost (at (ranks_of m G t) a) (at (ranks_of m G u) b) q c.1 in
        let k = kids.0.held a w.0 w.2 in
        let j = kids.1.held b w.1 w.3 in
        (sym (ap (λ z. z.1) w.4), (r, a, b, k.0, j.0, record { ρ = ρ; stands = stands; from = refl; formed = formed ∙ ap (λ z. base2 z a b) (eqb-true o op c.0) }, k.1, j.1, (λ i. m.sum (m.sum (cost_or_zero m (stands i)) (k.2 i).0) (j.2 i).0) ∙ ap (λ z. z.0) w.4))

    same_op : (op : ℕ) (o : Option (Rank C)) → o ≡ cond (eqb op op) o None
    same_op op o = sym (ap (λ b. cond b o None) (eq-eqb op op refl))

    -- and the base rule of each such cover gives at most its cost
    pub offer_least : (t : Tree) → KidsRight m G t → size t ≤ 2048 → (e : ℕ) (c : C) → BaseCover m G t e c → (r : ℕ) × (ρ : RuleOf C) × (rule G r ≡ Some ρ) × (ρ.left ≡ e) × Under m (base_offer m (kid_ranks m G t) ρ.cost ρ.form) (c, 0)
    offer_least (node0 op p) kids s e c st =
        let i = st.1 in
        let eq : i.ρ.cost ≡ c = sym (ap (cost_or_zero m) i.stands) ∙ st.2 in
        let u : Under m (Some (i.ρ.cost, 0)) (c, 0) = subst (λ z. Under m (Some (i.ρ.cost, 0)) (z, 0)) eq (le_refl (rank_order l) (i.ρ.cost, 0)) in
        (st.0, i.ρ, i.stands, i.from, subst (λ z. Under m (base_offer m (leaf op) i.ρ.cost z) (c, 0)) (sym i.formed) (subst (λ z. Under m z (c, 0)) (same_op op (Some (i.ρ.cost, 0))) u))
    offer_least (node1 op p t) kids s e c st =
        let i = st.3 in
        let a = st.1 in
        let k = st.2 in
        let eq : m.sum i.ρ.cost (cover_cost m G k) ≡ c = sym (ap (λ z. m.sum (cost_or_zero m z) (cover_cost m G k)) i.stands) ∙ st.5 in
        let w : m.weight i.ρ.cost ≤ 1000 = sealed.priced.light st.0 i.ρ i.stands in
        let x = cover_weight l sealed t k a (omega arith) st.4 in
        let u : Under m (with1 m i.ρ.cost (at (ranks_of m G t) a)) (m.sum i.ρ.cost (cover_cost m G k), 0) = under1 i.ρ.cost (at (ranks_of m G t) a) (rank_of m G k) (omega arith) (λ y o. (let z = right_light t (ranks_of m G t) kids (omega arith) a y o in omega arith)) (omega arith) (kids.least k a st.4) in
        (st.0, i.ρ, i.stands, i.from, subst (λ z. Under m (base_offer m (unary op (ranks_of m G t)) i.ρ.cost z) (c, 0)) (sym i.formed) (subst (λ z. Under m z (c, 0)) (same_op op (with1 m i.ρ.cost (at (ranks_of m G t) a))) (subst (λ z. Under m (with1 m i.ρ.cost (at (ranks_of m G t) a)) (z, 0)) eq u)))
    offer_least (node2 op p t v) kids s e c st =
        let i = st.5 in
        let a = st.1 in
        let b = st.2 in
        let k = st.3 in
        let j = st.4 in
        let eq : m.sum (m.sum i.ρ.cost (cover_cost m G k)) (cover_cost m G j) ≡ c = sym (ap (λ z. m.sum (m.sum (cost_or_zero m z) (cover_cost m G k)) (cover_cost m G j)) i.stands) ∙ st.8 in
        let w : m.weight i.ρ.cost ≤ 1000 = sealed.priced.light st.0 i.ρ i.stands in
        let x = cover_weight l sealed t k a (omega arith) st.6 in
        let y = cover_weight l sealed v j b (omega arith) st.7 in
        let o = with2 m i.ρ.cost (at (ranks_of m G t) a) (at (ranks_of m G v) b) in
        let u : Under m o (m.sum (m.sum i.ρ.cost (cover_cost m G k)) (cover_cost m G j), 0) = under2 i.ρ.cost (at (ranks_of m G t) a) (at (ranks_of m G v) b) (rank_of m G k) (rank_of m G j) w (right_light t (ranks_of m G t) kids.0 (omega arith) a) (right_light v (ranks_of m G v) kids.1 (omega arith) b) (omega arith) (omega arith) (kids.0.least k a st.6) (kids.1.least j b st.7) in
        (st.0, i.ρ, i.stands, i.from, subst (λ z. Under m (base_offer m (binary op (ranks_of m G t) (ranks_of m G v)) i.ρ.cost z) (c, 0)) (sym i.formed) (subst (λ z. Under m z (c, 0)) (same_op op o) (subst (λ z. Under m o (z, 0)) eq u)))

    -- ranks of such covers
    pub record BaseCovers (t : Tree) (row : Ranks C) : Type 0 where
      pub long : length row ≡ count G
      pub held : (n : ℕ) (q : Rank C) → at row n ≡ Some q → (q.1 ≡ 0) × BaseCover m G t n q.0

    module _ (t : Tree) (kids : KidsRight m G t) where
      pub inside : (row : Ranks C) → BaseCovers t row → (r : ℕ) (ρ : RuleOf C) → rule G r ≡ Some ρ → ρ.left < length row
      inside row h r ρ e = subst (λ z. ρ.left < z) (sym h.long) (sealed.declared.left_declared r ρ e)

      abbrev pub next : Ranks C → RuleOf C → Ranks C
      next row ρ = relax m row ρ.left (base_offer m (kid_ranks m G t) ρ.cost ρ.form)

      pub base_covers_next : (row : Ranks C) → BaseCovers t row → (r : ℕ) (ρ : RuleOf C) → rule G r ≡ Some ρ → BaseCovers t (next row ρ)
      base_covers_next row h r ρ e = record {
        long = length-set row ρ.left (better m (at row ρ.left) (base_offer m (kid_ranks m G t) ρ.cost ρ.form)) ∙ h.long;
        held = λ k q o. elim (relax_is l row ρ.left (base_offer m (kid_ranks m G t) ρ.cost ρ.form) (inside row h r ρ e) k q o) [
          | inl x ↦ h.held k q x
          | inr x ↦ subst (λ z. (q.1 ≡ 0) × BaseCover m G t z q.0) (sym x.0) (offer_base_cover t kids r ρ e ρ.form refl q x.1)
        ];
      }

      pub base_covers_bases : (ρs : List (RuleOf C)) → Numbered G ρs → (row : Ranks C) → BaseCovers t row → BaseCovers t (bases m (kid_ranks m G t) row ρs)
      base_covers_bases [] all row h = h
      base_covers_bases (ρ ∷ ρs) all row h = (let n = all 0 ρ refl in base_covers_bases ρs (λ i. all (suc i)) (next row ρ) (base_covers_next row h n.0 ρ n.1))

      down_bases : (ρs : List (RuleOf C)) → Numbered G ρs → (row : Ranks C) → BaseCovers t row → (k : ℕ) (q : Rank C) → Under m (at row k) q → Under m (at (bases m (kid_ranks m G t) row ρs) k) q
      down_bases [] all row h k q u = u
      down_bases (ρ ∷ ρs) all row h k q u =
          let n = all 0 ρ refl in
          down_bases ρs (λ i. all (suc i)) (next row ρ) (base_covers_next row h n.0 ρ n.1) k q (relax_old l row ρ.left (base_offer m (kid_ranks m G t) ρ.cost ρ.form) (inside row h n.0 ρ n.1) k q u)

      bases_do : (ρs : List (RuleOf C)) → Numbered G ρs → (row : Ranks C) → BaseCovers t row → (i : ℕ) (ρ : RuleOf C) (q : Rank C) → slice_get ρs i ≡ Some ρ → Under m (base_offer m (kid_ranks m G t) ρ.cost ρ.form) q → Under m (at (bases m (kid_ranks m G t) row ρs) ρ.left) q
      bases_do [] all row h i ρ q e u = absurd (none_some ρ e)
      bases_do (x ∷ ρs) all row h zero ρ q e u =
          let n = all 0 x refl in
          let same : x ≡ ρ = some_is x ρ e in
          let o = base_offer m (kid_ranks m G t) x.cost x.form in
          let here : Under m (at (next row x) x.left) q = relax_new l row x.left o (inside row h n.0 x n.1) q (subst (λ z. Under m (base_offer m (kid_ranks m G t) z.cost z.form) q) (sym same) u) in
          subst (λ z. Under m (at (bases m (kid_ranks m G t) row (x ∷ ρs)) z.left) q) same (down_bases ρs (λ j. all (suc j)) (next row x) (base_covers_next row h n.0 x n.1) x.left q here)
      bases_do (x ∷ ρs) all row h (suc i) ρ q e u = (let n = all 0 x refl in bases_do ρs (λ j. all (suc j)) (next row x) (base_covers_next row h n.0 x n.1) i ρ q e u)

      blank : (n k : ℕ) → at (replicate {A = Option (Rank C)} n None) k ≡ None
      blank zero k = refl
      blank (suc n) zero = refl
      blank (suc n) (suc k) = blank n k

      pub base_covers_blank : BaseCovers t (replicate (count G) None)
      base_covers_blank = record { long = length-replicate (count G) None; held = λ n q e. absurd (none_some q (sym (blank (count G) n) ∙ e)) }

      abbrev pub base_ranks : Ranks C
      base_ranks = bases m (kid_ranks m G t) (replicate (count G) None) G.rules

      pub base_covers : BaseCovers t base_ranks
      base_covers = base_covers_bases G.rules (λ i ρ e. (suc i, e)) (replicate (count G) None) base_covers_blank

      pub base_covers_least : size t ≤ 2048 → (e : ℕ) (c : C) → BaseCover m G t e c → Under m (at base_ranks e) (c, 0)
      base_covers_least s e c st =
          let o = offer_least t kids s e c st in
          let place = number_at G.rules o.0 o.1 o.2 in
          subst (λ z. Under m (at base_ranks z) (c, 0)) o.3 (bases_do G.rules (λ i ρ x. (suc i, x)) (replicate (count G) None) base_covers_blank place.0 o.1 (c, 0) place.1 o.4)
