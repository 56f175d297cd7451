-- The rule that `best` names is the one to choose.
use Rattle.std.proofs.Common.{◌≡◌, ℕ, zero, suc, ◌+◌, ◌<◌, ◌≤◌, Bool, true, false, cond, eqb, List, [], ◌∷◌, Some, None, Option, Ordering, Less, Equal, Greater, sym, refl, ap, ◌∙◌, subst, true≢false, arith}
use Rattle.std.proofs.lemmas.Bool.{eqb-true, eq-eqb}
use Rattle.std.specs.List.{slice_get}
use Rattle.std.specs.Ordering.{is_eq}
use Rattle.cost.specs.Model.{Model, Laws}
use Rattle.grammar.specs.Lists.{FormOf, chain, base0, base1, base2, RuleOf, Lists, rule, Sealed}
use Rattle.covers.specs.Trees.{Applied, leaf, unary, binary, Tree, node0, node1, node2, size}
use Rattle.covers.specs.Covers.{cost_or_zero, rule_cost, source, Run, Cover, Covers, cover_cost, Least, Fewest, BaseAttains, ChainAttains, Lowest, Choice}
use Rattle.covers.specs.Ranks.{Rank, Ranks, by_rank, at, up, further, with1, with2, base_offer, ranked, ranks_of, kid_ranks, is_rank, offer, offers, first_from, choose, choices, best}
use Rattle.covers.specs.Rounds.{over}
use Rattle.covers.proofs.Order.{Le, rank_order, cost_order, le_same, itself}
use Rattle.covers.proofs.Within.{Fair, up_le, rank_cost, rank_count}
use Rattle.covers.proofs.Relaxing.{Under, some_is, none_some}
use Rattle.covers.proofs.Runs.{rule_cost_bounds, run_rest, run_fair}
use Rattle.covers.proofs.Closure.{further_some, closed_held, closed_ahead, closed_step, held_fair}
use Rattle.covers.proofs.BaseParts.{BaseCover, rank_of, whole}
use Rattle.covers.proofs.Bases.{RightRanks, KidsRight, cond_some, with1_some, with2_some, offer_base_cover, offer_least, base_ranks, base_covers}
use Rattle.covers.proofs.TreeRanks.{under_some, base_ranks_light, right_at_kids, right_ranks}

-- what `best` says of n
pub record BestRight {C : Type 0} (m : Model C) (G : Lists C) (t : Tree) (n : ℕ) : Type 0 where
  pub none : at (best m G t) n ≡ None → (k : Cover) → Covers G k t n → ⊥
  pub least : (c : C) (d r : ℕ) → at (best m G t) n ≡ Some (c, d, r) → Least m G t n c
  pub fewest : (c : C) (d r : ℕ) → at (best m G t) n ≡ Some (c, d, r) → Fewest m G t n d
  pub choice : (c : C) (d r : ℕ) → at (best m G t) n ≡ Some (c, d, r) → Choice m G t n c d r

-- ---- the first rule that passes

record First {C : Type 0} (f : RuleOf C → Bool) (ρs : List (RuleOf C)) (x : ℕ) : Type 0 where
  pub j : ℕ
  pub ρ : RuleOf C
  pub is : first_from f x ρs ≡ x + j
  pub stands : slice_get ρs j ≡ Some ρ
  pub passes : f ρ ≡ true
  pub before : (i : ℕ) (q : RuleOf C) → i < j → slice_get ρs i ≡ Some q → f q ≡ true → ⊥

first_here : {C : Type 0} (f : RuleOf C → Bool) (y : RuleOf C) (ρs : List (RuleOf C)) (x : ℕ) → f y ≡ true → First f (y ∷ ρs) x
first_here f y ρs x e = record {
  j = 0;
  ρ = y;
  is = (let s : x ≡ x + 0 = omega arith in ap (λ b. cond b x (first_from f (suc x) ρs)) e ∙ s);
  stands = refl;
  passes = e;
  before = λ i q h. absurd (omega arith);
}

first_later : {C : Type 0} (f : RuleOf C → Bool) (y : RuleOf C) (ρs : List (RuleOf C)) (x : ℕ) → f y ≡ false → First f ρs (suc x) → First f (y ∷ ρs) x
first_later {C} f y ρs x e g = record {
  j = suc g.j;
  ρ = g.ρ;
  is = (let s : suc x + g.j ≡ x + suc g.j = omega arith in ap (λ b. cond b x (first_from f (suc x) ρs)) e ∙ g.is ∙ s);
  stands = g.stands;
  passes = g.passes;
  before = earlier;
}
  where
    earlier : (i : ℕ) (q : RuleOf C) → i < suc g.j → slice_get (y ∷ ρs) i ≡ Some q → f q ≡ true → ⊥
    earlier zero q h s t = true≢false (sym t ∙ ap f (sym (some_is y q s)) ∙ e)
    earlier (suc i) q h s t = g.before i q (omega arith) s t

first_by : {C : Type 0} (f : RuleOf C → Bool) (y : RuleOf C) (ρs : List (RuleOf C)) (x : ℕ) (b : Bool) → f y ≡ b → First f ρs (suc x) → First f (y ∷ ρs) x
first_by f y ρs x true e g = first_here f y ρs x e
first_by f y ρs x false e g = first_later f y ρs x e g

first : {C : Type 0} (f : RuleOf C → Bool) (ρs : List (RuleOf C)) (x i : ℕ) (ρ : RuleOf C) → slice_get ρs i ≡ Some ρ → f ρ ≡ true → First f ρs x
first f [] x i ρ s t = absurd (none_some ρ s)
first f (y ∷ ρs) x zero ρ s t = first_here f y ρs x (ap f (some_is y ρ s) ∙ t)
first f (y ∷ ρs) x (suc i) ρ s t = first_by f y ρs x (f y) refl (first f ρs (suc x) i ρ s t)

-- ---- the places of `best`

pub at_choices : {C : Type 0} (m : Model C) (G : Lists C) (s : Applied (Ranks C)) (row : Ranks C) (n : ℕ) (os : Ranks C) (i : ℕ) → at (choices m G s row n os) i ≡ choose m G s row (n + i) (at os i)
at_choices m G s row n [] i = refl
at_choices m G s row n (o ∷ os) zero = (let e : n ≡ n + 0 = omega arith in ap (λ z. choose m G s row z o) e)
at_choices m G s row n (o ∷ os) (suc i) = (let e : suc n + i ≡ n + suc i = omega arith in at_choices m G s row (suc n) os i ∙ ap (λ z. choose m G s row z (at os i)) e)

pub choose_some : {C : Type 0} (m : Model C) (G : Lists C) (s : Applied (Ranks C)) (row : Ranks C) (n : ℕ) (o : Option (Rank C)) (c : C) (d r : ℕ) → choose m G s row n o ≡ Some (c, d, r) → (o ≡ Some (c, d)) × (first_from (offers m s row n (c, d)) 1 G.rules ≡ r)
choose_some m G s row n None c d r h = absurd (none_some (c, d, r) h)
choose_some {C} m G s row n (Some p) c d r h =
    let e : ◌≡◌ {A = C × ℕ × ℕ} (p.0, p.1, first_from (offers m s row n p) 1 G.rules) (c, d, r) = some_is (p.0, p.1, first_from (offers m s row n p) 1 G.rules) (c, d, r) h in
    let q : ◌≡◌ {A = Rank C} p (c, d) = λ i. ((e i).0, (e i).1) in
    (ap {B = Option (Rank C)} Some q, sym (ap (λ z. first_from (offers m s row n z) 1 G.rules) q) ∙ ap (λ z. z.2) e)

pub choose_none : {C : Type 0} (m : Model C) (G : Lists C) (s : Applied (Ranks C)) (row : Ranks C) (n : ℕ) (o : Option (Rank C)) → choose m G s row n o ≡ None → o ≡ None
choose_none m G s row n None h = refl
choose_none m G s row n (Some p) h = absurd (none_some (p.0, p.1, first_from (offers m s row n p) 1 G.rules) (sym h))

is_equal : (r : Ordering) → is_eq r ≡ true → r ≡ Equal
is_equal Less e = absurd (true≢false (sym e))
is_equal Equal e = refl
is_equal Greater e = absurd (true≢false (sym e))

cond_true : (b x : Bool) → cond b x false ≡ true → (b ≡ true) × (x ≡ true)
cond_true true x h = (refl, h)
cond_true false x h = absurd (true≢false (sym h))

module _ {C : Type 0} {m : Model C} (l : Laws m) where
  is_rank_true : (p : Rank C) (o : Option (Rank C)) → is_rank m p o ≡ true → o ≡ Some p
  is_rank_true p None h = absurd (true≢false (sym h))
  is_rank_true p (Some q) h = ap {B = Option (Rank C)} Some ((rank_order l).same q p (is_equal (by_rank m q p) h))

  is_rank_some : (p : Rank C) (o : Option (Rank C)) → o ≡ Some p → is_rank m p o ≡ true
  is_rank_some p o e = ap (is_rank m p) e ∙ ap is_eq (itself (rank_order l) p)

  module _ {G : Lists C} (sealed : Sealed m G) where
    -- ---- what a right row says

    module _ (t : Tree) (row : Ranks C) (s : RightRanks m G t row) where
      pub least_of : (n : ℕ) (q : Rank C) → at row n ≡ Some q → Least m G t n q.0
      least_of n q e = record {
        some = (let k = s.held n q e in (k.0, k.1, ap (λ z. z.0) k.2));
        none_below = λ k h. rank_cost l q (rank_of m G k) (subst (λ z. Under m z (rank_of m G k)) e (s.least k n h));
      }

      pub least_same : (n : ℕ) (x y : C) → Least m G t n x → Least m G t n y → x ≡ y
      least_same n x y f g = le_same (cost_order l) x y (subst (λ z. Le m.cmp x z) g.some.2 (f.none_below g.some.0 g.some.1)) (subst (λ z. Le m.cmp y z) f.some.2 (g.none_below f.some.0 f.some.1))

      pub fewest_of : (n : ℕ) (q : Rank C) → at row n ≡ Some q → Fewest m G t n q.1
      fewest_of n q e = record {
        some = (let k = s.held n q e in (k.0, k.1, subst (Least m G t n) (sym (ap (λ z. z.0) k.2)) (least_of n q e), ap (λ z. z.1) k.2));
        none_fewer = λ k h f. rank_count l q (rank_of m G k) (least_same n q.0 (cover_cost m G k) (least_of n q e) f) (subst (λ z. Under m z (rank_of m G k)) e (s.least k n h));
      }

      pub fewest_same : (n d e : ℕ) → Fewest m G t n d → Fewest m G t n e → d ≡ e
      fewest_same n d e f g =
          let a = f.none_fewer g.some.0 g.some.1 g.some.2 in
          let b = g.none_fewer f.some.0 f.some.1 f.some.2 in
          omega (arith, f.some.3, g.some.3)

      pub row_has : (n : ℕ) (x : C) → Least m G t n x → (d : ℕ) × (at row n ≡ Some (x, d))
      row_has n x f =
          let u = under_some m (at row n) (rank_of m G f.some.0) (s.least f.some.0 n f.some.1) in
          let e : u.0.0 ≡ x = least_same n u.0.0 x (least_of n u.0 u.1) f in
          (u.0.1, u.1 ∙ (λ i. Some (e i, u.0.1)))

      pub row_has_both : (n : ℕ) (x : C) (d : ℕ) → Least m G t n x → Fewest m G t n d → at row n ≡ Some (x, d)
      row_has_both n x d f g =
          let h = row_has n x f in
          let e : h.0 ≡ d = fewest_same n h.0 d (fewest_of n (x, h.0) h.1) g in
          h.1 ∙ (λ i. Some (x, e i))

    offer_base : (s : Applied (Ranks C)) (row : Ranks C) (c : C) (sh : FormOf) (q : Rank C) → base_offer m s c sh ≡ Some q → offer m s row c sh ≡ Some q
    offer_base s row c (chain x) q h = absurd (none_some q h)
    offer_base s row c (base0 o) q h = h
    offer_base s row c (base1 o a) q h = h
    offer_base s row c (base2 o a b) q h = h

    -- the rule r, from n, offers q
    record Offers (t : Tree) (row : Ranks C) (n : ℕ) (q : Rank C) (r : ℕ) : Type 0 where
      pub ρ : RuleOf C
      pub stands : rule G r ≡ Some ρ
      pub from : ρ.left ≡ n
      pub makes : offer m (kid_ranks m G t) row ρ.cost ρ.form ≡ Some q

    offers_passes : (t : Tree) (row : Ranks C) (n : ℕ) (q : Rank C) (ρ : RuleOf C) → ρ.left ≡ n → offer m (kid_ranks m G t) row ρ.cost ρ.form ≡ Some q → offers m (kid_ranks m G t) row n q ρ ≡ true
    offers_passes t row n q ρ e h = ap (λ b. cond b (is_rank m q (offer m (kid_ranks m G t) row ρ.cost ρ.form)) false) (eq-eqb ρ.left n e) ∙ is_rank_some q (offer m (kid_ranks m G t) row ρ.cost ρ.form) h

    lowest : (t : Tree) (row : Ranks C) (n : ℕ) (q : Rank C) (P : ℕ → Type 0) (r : ℕ) → ((x : ℕ) → Offers t row n q x → P x) → ((x : ℕ) → P x → Offers t row n q x) → (x : ℕ) → Offers t row n q x → first_from (offers m (kid_ranks m G t) row n q) 1 G.rules ≡ r → Lowest P r
    lowest t row n q P r to from zero o e = absurd (none_some o.ρ o.stands)
    lowest t row n q P r to from (suc x) o e =
        let f = first (offers m (kid_ranks m G t) row n q) G.rules 1 x o.ρ o.stands (offers_passes t row n q o.ρ o.from o.makes) in
        let number : suc f.j ≡ r = omega (arith, f.is, e) in
        let told = cond_true (eqb f.ρ.left n) (is_rank m q (offer m (kid_ranks m G t) row f.ρ.cost f.ρ.form)) f.passes in
        let here : P (suc f.j) = to (suc f.j) (record { ρ = f.ρ; stands = f.stands; from = eqb-true f.ρ.left n told.0; makes = is_rank_true q (offer m (kid_ranks m G t) row f.ρ.cost f.ρ.form) told.1 }) in
        record { holds = subst P number here; first = earlier f number }
      where
        earlier : (f : First (offers m (kid_ranks m G t) row n q) G.rules 1) → suc f.j ≡ r → (y : ℕ) → y < r → P y → ⊥
        earlier f number zero h p = (let u = from zero p in none_some u.ρ u.stands)
        earlier f number (suc y) h p = (let u = from (suc y) p in f.before y u.ρ (omega arith) u.stands (offers_passes t row n q u.ρ u.from u.makes))

    module _ (t : Tree) (kids : KidsRight m G t) (small : size t ≤ 2048) where
      abbrev own : Ranks C
      own = ranked m G (kid_ranks m G t)

      right : RightRanks m G t own
      right = right_at_kids l sealed t kids small

      -- some rule offers what stands there
      offered_by : (rs : List ℕ) (n e : ℕ) (p q : Rank C) → at own n ≡ Some q → Run G rs n e → at (base_ranks l sealed t kids) e ≡ Some p → over m G rs p ≡ q → (r : ℕ) × Offers t own n q r
      offered_by [] n e p q o run ends is =
          let st = (base_covers l sealed t kids).held e p ends in
          let least = offer_least l sealed t kids small e p.0 st.1 in
          let ρ = least.1 in
          let u = under_some m (base_offer m (kid_ranks m G t) ρ.cost ρ.form) (p.0, 0) least.4 in
          let x = u.0 in
          let below : Le (by_rank m) x q = subst (λ z. Le (by_rank m) x z) ((λ i. (p.0, sym st.0 i)) ∙ is) u.2 in
          let from : ρ.left ≡ n = least.3 ∙ sym run.linked in
          let xs = offer_base_cover l sealed t kids least.0 ρ least.2 ρ.form refl x u.1 in
          let k = whole m G t [] n n x.0 (record { linked = refl; simple = (tt, tt) }) (subst (λ z. BaseCover m G t z x.0) from xs.1) in
          let rank_is : rank_of m G k.0 ≡ x = k.2 ∙ (λ i. (x.0, sym xs.0 i)) in
          let above : Le (by_rank m) q x = subst (λ z. Le (by_rank m) q z) rank_is (subst (λ z. Under m z (rank_of m G k.0)) o (right.least k.0 n k.1)) in
          let same : x ≡ q = le_same (rank_order l) x q below above in
          (least.0, record { ρ = ρ; stands = least.2; from = from; makes = offer_base (kid_ranks m G t) own ρ.cost ρ.form q (u.1 ∙ ap {B = Option (Rank C)} Some same) })
      offered_by (r ∷ rs) n e p q o run ends is =
          let b = base_ranks l sealed t kids in
          let lights = base_ranks_light l sealed t kids small in
          let long = (base_covers l sealed t kids).long in
          let i = run.linked.0 in
          let rest = run_rest sealed r rs n e run in
          let u = under_some m (at own (source G r)) (over m G rs p) (closed_ahead l sealed b lights long rs (source G r) e p rest ends) in
          let x = u.0 in
          let fx : Fair m x.0 = held_fair l sealed b lights own (closed_held l sealed b lights long) (source G r) x u.1 in
          let w = (rule_cost_bounds sealed r n (chain (source G r)) i).light in
          let below : Le (by_rank m) (up m (rule_cost m G r) x) q = subst (λ z. Le (by_rank m) (up m (rule_cost m G r) x) z) is (up_le l x (over m G rs p) (rule_cost m G r) fx (run_fair sealed l rs (source G r) e p rest (lights e p ends)) (omega arith) u.2) in
          let above : Le (by_rank m) q (up m (rule_cost m G r) x) = subst (λ z. Under m z (up m (rule_cost m G r) x)) o (closed_step l sealed b lights long r n (source G r) x i u.1) in
          let same : up m i.ρ.cost x ≡ q = sym (ap (λ z. up m (cost_or_zero m z) x) i.stands) ∙ le_same (rank_order l) (up m (rule_cost m G r) x) q below above in
          let made : offer m (kid_ranks m G t) own i.ρ.cost (chain (source G r)) ≡ Some q = ap (further m i.ρ.cost) u.1 ∙ ap {B = Option (Rank C)} Some same in
          (r, record { ρ = i.ρ; stands = i.stands; from = i.from; makes = ap (offer m (kid_ranks m G t) own i.ρ.cost) i.formed ∙ made })

      offered : (n : ℕ) (q : Rank C) → at own n ≡ Some q → (r : ℕ) × Offers t own n q r
      offered n q o =
          let w = (closed_held l sealed (base_ranks l sealed t kids) (base_ranks_light l sealed t kids small) (base_covers l sealed t kids).long).held n q o in
          offered_by w.rs n w.e w.p q o w.run w.ends w.is

      -- an offer of no chain rule, and of some
      to_chain : (n : ℕ) (c : C) (d r : ℕ) (ρ : RuleOf C) → rule G r ≡ Some ρ → ρ.left ≡ n → (sh : FormOf) → ρ.form ≡ sh → offer m (kid_ranks m G t) own ρ.cost sh ≡ Some (c, suc d) → ChainAttains m G t n c d r
      to_chain n c d r ρ stands from (chain s) formed h =
          let f = further_some m ρ.cost (at own s) (c, suc d) h in
          let x = f.0 in
          let e : x.1 ≡ d = omega (arith, ap (λ (z : Rank C). z.1) f.2) in
          record {
            s = s;
            x = x.0;
            is = record { ρ = ρ; stands = stands; from = from; formed = formed };
            least = least_of t own right s x f.1;
            fewest = subst (Fewest m G t s) e (fewest_of t own right s x f.1);
            comes_to = ap (λ z. m.sum x.0 (cost_or_zero m z)) stands ∙ ap (λ z. z.0) f.2;
          }
      to_chain n c d r ρ stands from (base0 o) formed h = absurd (let z = (offer_base_cover l sealed t kids r ρ stands (base0 o) formed (c, suc d) h).0 in omega arith)
      to_chain n c d r ρ stands from (base1 o a) formed h = absurd (let z = (offer_base_cover l sealed t kids r ρ stands (base1 o a) formed (c, suc d) h).0 in omega arith)
      to_chain n c d r ρ stands from (base2 o a b) formed h = absurd (let z = (offer_base_cover l sealed t kids r ρ stands (base2 o a b) formed (c, suc d) h).0 in omega arith)

      from_chain : (n : ℕ) (c : C) (d r : ℕ) → ChainAttains m G t n c d r → Offers t own n (c, suc d) r
      from_chain n c d r k =
          let i = k.is in
          let e : at own k.s ≡ Some (k.x, d) = row_has_both t own right k.s k.x d k.least k.fewest in
          let same : m.sum k.x i.ρ.cost ≡ c = sym (ap (λ z. m.sum k.x (cost_or_zero m z)) i.stands) ∙ k.comes_to in
          let made : offer m (kid_ranks m G t) own i.ρ.cost (chain k.s) ≡ Some (c, suc d) = ap (further m i.ρ.cost) e ∙ (λ j. Some (same j, suc d)) in
          record { ρ = i.ρ; stands = i.stands; from = i.from; makes = ap (offer m (kid_ranks m G t) own i.ρ.cost) i.formed ∙ made }

    not_chain : (row : Ranks C) (x : ℕ) (k c : C) → further m k (at row x) ≡ Some (c, 0) → ⊥
    not_chain row x k c h =
        let f = further_some m k (at row x) (c, 0) h in
        omega (arith, ap (λ (z : Rank C). z.1) f.2)

    to_base : (t : Tree) → KidsRight m G t → (row : Ranks C) (n : ℕ) (c : C) (r : ℕ) (ρ : RuleOf C) → rule G r ≡ Some ρ → ρ.left ≡ n → (sh : FormOf) → ρ.form ≡ sh → offer m (kid_ranks m G t) row ρ.cost sh ≡ Some (c, 0) → BaseAttains m G t n c r
    to_base (node0 op p) kids row n c r ρ stands from (chain s) formed h = absurd (not_chain row s ρ.cost c h)
    to_base (node1 op p t) kids row n c r ρ stands from (chain s) formed h = absurd (not_chain row s ρ.cost c h)
    to_base (node2 op p t u) kids row n c r ρ stands from (chain s) formed h = absurd (not_chain row s ρ.cost c h)
    to_base (node0 op p) kids row n c r ρ stands from (base0 o) formed h =
        let k = cond_some (eqb o op) (Some (ρ.cost, 0)) (c, 0) h in
        (record { ρ = ρ; stands = stands; from = from; formed = formed ∙ ap base0 (eqb-true o op k.0) }, ap (cost_or_zero m) stands ∙ ap (λ (z : Rank C). z.0) (some_is (ρ.cost, 0) (c, 0) k.1))
    to_base (node1 op p t) kids row n c r ρ stands from (base0 o) formed h = absurd (none_some (c, 0) h)
    to_base (node2 op p t u) kids row n c r ρ stands from (base0 o) formed h = absurd (none_some (c, 0) h)
    to_base (node0 op p) kids row n c r ρ stands from (base1 o a) formed h = absurd (none_some (c, 0) h)
    to_base (node1 op p t) kids row n c r ρ stands from (base1 o a) formed h =
        let k = cond_some (eqb o op) (with1 m ρ.cost (at (ranks_of m G t) a)) (c, 0) h in
        let w = with1_some m ρ.cost (at (ranks_of m G t) a) (c, 0) k.1 in
        (a, w.0.0, record { ρ = ρ; stands = stands; from = from; formed = formed ∙ ap (λ z. base1 z a) (eqb-true o op k.0) }, least_of t (ranks_of m G t) kids a w.0 w.1, ap (λ z. m.sum (cost_or_zero m z) w.0.0) stands ∙ ap (λ z. z.0) w.2)
    to_base (node2 op p t u) kids row n c r ρ stands from (base1 o a) formed h = absurd (none_some (c, 0) h)
    to_base (node0 op p) kids row n c r ρ stands from (base2 o a b) formed h = absurd (none_some (c, 0) h)
    to_base (node1 op p t) kids row n c r ρ stands from (base2 o a b) formed h = absurd (none_some (c, 0) h)
    to_base (node2 op p t u) kids row n c r ρ stands from (base2 o a b) formed h =
        let k = cond_some (eqb o op) (with2 m ρ.cost (at (ranks_of m G t) a) (at (ranks_of m G u) b)) (c, 0) h in
        let w = with2_some m ρ.cost (at (ranks_of m G t) a) (at (ranks_of m G u) b) (c, 0) k.1 in
        (a, b, w.0.0, w.1.0, record { ρ = ρ; stands = stands; from = from; formed = formed ∙ ap (λ z. base2 z a b) (eqb-true o op k.0) }, least_of t (ranks_of m G t) kids.0 a w.0 w.2, least_of u (ranks_of m G u) kids.1 b w.1 w.3, ap (λ z. m.sum (m.sum (cost_or_zero m z) w.0.0) w.1.0) stands ∙ ap (λ z. z.0) w.4)

    one_op : (op : ℕ) (o : Option (Rank C)) → cond (eqb op op) o None ≡ o
    one_op op o = ap (λ b. cond b o None) (eq-eqb op op refl)

    from_base : (t : Tree) → KidsRight m G t → (row : Ranks C) (n : ℕ) (c : C) (r : ℕ) → BaseAttains m G t n c r → Offers t row n (c, 0) r
    from_base (node0 op p) kids row n c r k =
        let i = k.0 in
        let same : i.ρ.cost ≡ c = sym (ap (cost_or_zero m) i.stands) ∙ k.1 in
        record { ρ = i.ρ; stands = i.stands; from = i.from; makes = ap (offer m (leaf op) row i.ρ.cost) i.formed ∙ one_op op (Some (i.ρ.cost, 0)) ∙ (λ j. Some (same j, 0)) }
    from_base (node1 op p t) kids row n c r k =
        let i = k.2 in
        let e = row_has t (ranks_of m G t) kids k.0 k.1 k.3 in
        let same : m.sum i.ρ.cost k.1 ≡ c = sym (ap (λ z. m.sum (cost_or_zero m z) k.1) i.stands) ∙ k.4 in
        record { ρ = i.ρ; stands = i.stands; from = i.from; makes = ap (offer m (unary op (ranks_of m G t)) row i.ρ.cost) i.formed ∙ one_op op (with1 m i.ρ.cost (at (ranks_of m G t) k.0)) ∙ ap (with1 m i.ρ.cost) e.1 ∙ (λ j. Some (same j, 0)) }
    from_base (node2 op p t u) kids row n c r k =
        let i = k.4 in
        let e = row_has t (ranks_of m G t) kids.0 k.0 k.2 k.5 in
        let f = row_has u (ranks_of m G u) kids.1 k.1 k.3 k.6 in
        let same : m.sum (m.sum i.ρ.cost k.2) k.3 ≡ c = sym (ap (λ z. m.sum (m.sum (cost_or_zero m z) k.2) k.3) i.stands) ∙ k.7 in
        record { ρ = i.ρ; stands = i.stands; from = i.from; makes = ap (offer m (binary op (ranks_of m G t) (ranks_of m G u)) row i.ρ.cost) i.formed ∙ one_op op (with2 m i.ρ.cost (at (ranks_of m G t) k.0) (at (ranks_of m G u) k.1)) ∙ (λ j. with2 m i.ρ.cost (e.1 j) (f.1 j)) ∙ (λ j. Some (same j, 0)) }

    choice_at : (t : Tree) (kids : KidsRight m G t) (small : size t ≤ 2048) (n : ℕ) (c : C) (d r : ℕ) → at (ranked m G (kid_ranks m G t)) n ≡ Some (c, d) → first_from (offers m (kid_ranks m G t) (ranked m G (kid_ranks m G t)) n (c, d)) 1 G.rules ≡ r → Choice m G t n c d r
    choice_at t kids small n c zero r e f =
        let o = offered t kids small n (c, 0) e in
        let row = ranked m G (kid_ranks m G t) in
        lowest t row n (c, 0) (BaseAttains m G t n c) r (λ x u. to_base t kids row n c x u.ρ u.stands u.from u.ρ.form refl u.makes) (from_base t kids row n c) o.0 o.1 f
    choice_at t kids small n c (suc d) r e f =
        let o = offered t kids small n (c, suc d) e in
        let row = ranked m G (kid_ranks m G t) in
        lowest t row n (c, suc d) (ChainAttains m G t n c d) r (λ x u. to_chain t kids small n c d x u.ρ u.stands u.from u.ρ.form refl u.makes) (from_chain t kids small n c d) o.0 o.1 f

    pub kids_right : (t : Tree) → size t ≤ 2048 → KidsRight m G t
    kids_right (node0 op p) s = tt
    kids_right (node1 op p t) s = right_ranks l sealed t (omega arith)
    kids_right (node2 op p t u) s = (right_ranks l sealed t (omega arith), right_ranks l sealed u (omega arith))

    pub ranks_kid_ranks : (t : Tree) → ranks_of m G t ≡ ranked m G (kid_ranks m G t)
    ranks_kid_ranks (node0 op p) = refl
    ranks_kid_ranks (node1 op p t) = refl
    ranks_kid_ranks (node2 op p t u) = refl

    pub best_at : (t : Tree) (n : ℕ) → at (best m G t) n ≡ choose m G (kid_ranks m G t) (ranks_of m G t) n (at (ranks_of m G t) n)
    best_at t n = (let e : 0 + n ≡ n = omega arith in at_choices m G (kid_ranks m G t) (ranks_of m G t) 0 (ranks_of m G t) n ∙ ap (λ z. choose m G (kid_ranks m G t) (ranks_of m G t) z (at (ranks_of m G t) n)) e)

    pub told : (t : Tree) (n : ℕ) (c : C) (d r : ℕ) → at (best m G t) n ≡ Some (c, d, r) → (at (ranks_of m G t) n ≡ Some (c, d)) × (first_from (offers m (kid_ranks m G t) (ranks_of m G t) n (c, d)) 1 G.rules ≡ r)
    told t n c d r e = choose_some m G (kid_ranks m G t) (ranks_of m G t) n (at (ranks_of m G t) n) c d r (sym (best_at t n) ∙ e)

    choice_of : (t : Tree) → size t ≤ 2048 → (n : ℕ) (c : C) (d r : ℕ) → at (ranks_of m G t) n ≡ Some (c, d) → first_from (offers m (kid_ranks m G t) (ranks_of m G t) n (c, d)) 1 G.rules ≡ r → Choice m G t n c d r
    choice_of t s n c d r e f = choice_at t (kids_right t s) s n c d r (subst (λ z. at z n ≡ Some (c, d)) (ranks_kid_ranks t) e) (subst (λ z. first_from (offers m (kid_ranks m G t) z n (c, d)) 1 G.rules ≡ r) (ranks_kid_ranks t) f)

    pub right_at : (t : Tree) → size t ≤ 2048 → (n : ℕ) → BestRight m G t n
    right_at t s n = record {
      none = λ e k h. (let o = choose_none m G (kid_ranks m G t) (ranks_of m G t) n (at (ranks_of m G t) n) (sym (best_at t n) ∙ e) in subst (λ z. Under m z (rank_of m G k)) o ((right_ranks l sealed t s).least k n h));
      least = λ c d r e. least_of t (ranks_of m G t) (right_ranks l sealed t s) n (c, d) (told t n c d r e).0;
      fewest = λ c d r e. fewest_of t (ranks_of m G t) (right_ranks l sealed t s) n (c, d) (told t n c d r e).0;
      choice = λ c d r e. choice_of t s n c d r (told t n c d r e).0 (told t n c d r e).1;
    }
