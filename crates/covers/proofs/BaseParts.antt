-- A cover is a run over a base rule with covers of the kids.
use Rattle.std.proofs.Common.{◌≡◌, ℕ, ◌+◌, ◌*◌, ◌≤◌, List, [], ◌∷◌, length, sym, refl, ap, ◌∙◌, subst, arith}
use Rattle.cost.specs.Model.{Model, Laws}
use Rattle.grammar.specs.Lists.{FormOf, chain, base0, base1, base2, Lists, Sealed}
use Rattle.covers.specs.Trees.{Tree, node0, node1, node2, size}
use Rattle.covers.specs.Covers.{rule_cost, source, RuleIs, Run, Cover, cover0, cover1, cover2, Covers, run_cost, cover_cost, chain_count}
use Rattle.covers.specs.Ranks.{Rank, by_rank, up}
use Rattle.covers.specs.Rounds.{over, light}
use Rattle.covers.proofs.Order.{Le}
use Rattle.covers.proofs.Within.{up_le}
use Rattle.covers.proofs.Runs.{rule_cost_bounds, run_weight, run_fair, run_rest}

pub over_is : {C : Type 0} (m : Model C) (G : Lists C) (rs : List ℕ) (c : C) → over m G rs (c, 0) ≡ (run_cost m G rs c, length rs)
over_is m G [] c = refl
over_is m G (r ∷ rs) c = ap (up m (rule_cost m G r)) (over_is m G rs c)

abbrev pub BaseCover : {C : Type 0} → Model C → Lists C → Tree → ℕ → C → Type 0
BaseCover m G (node0 op p) e c = (r : ℕ) × RuleIs G r e (base0 op) × (rule_cost m G r ≡ c)
BaseCover m G (node1 op p t) e c = (r a : ℕ) × (k : Cover) × RuleIs G r e (base1 op a) × Covers G k t a × (m.sum (rule_cost m G r) (cover_cost m G k) ≡ c)
BaseCover m G (node2 op p t u) e c = (r a b : ℕ) × (k j : Cover) × RuleIs G r e (base2 op a b) × Covers G k t a × Covers G j u b × (m.sum (m.sum (rule_cost m G r) (cover_cost m G k)) (cover_cost m G j) ≡ c)

abbrev pub rank_of : {C : Type 0} → Model C → Lists C → Cover → Rank C
rank_of m G k = (cover_cost m G k, chain_count k)

pub record Parts {C : Type 0} (m : Model C) (G : Lists C) (t : Tree) (n : ℕ) (q : Rank C) : Type 0 where
  pub rs : List ℕ
  pub e : ℕ
  pub c : C
  pub run : Run G rs n e
  pub base_cover : BaseCover m G t e c
  pub is : over m G rs (c, 0) ≡ q

pub parts : {C : Type 0} (m : Model C) (G : Lists C) (t : Tree) (k : Cover) (n : ℕ) → Covers G k t n → Parts m G t n (rank_of m G k)
parts m G (node0 op p) (cover0 rs r) n h = record { rs = rs; e = h.0; c = rule_cost m G r; run = h.1; base_cover = (r, h.2, refl); is = over_is m G rs (rule_cost m G r) }
parts m G (node0 op p) (cover1 rs r k) n h = absurd h
parts m G (node0 op p) (cover2 rs r k j) n h = absurd h
parts m G (node1 op p t) (cover0 rs r) n h = absurd h
parts m G (node1 op p t) (cover1 rs r k) n h = record { rs = rs; e = h.0; c = m.sum (rule_cost m G r) (cover_cost m G k); run = h.2; base_cover = (r, h.1, k, h.3, h.4, refl); is = over_is m G rs (m.sum (rule_cost m G r) (cover_cost m G k)) }
parts m G (node1 op p t) (cover2 rs r k j) n h = absurd h
parts m G (node2 op p t u) (cover0 rs r) n h = absurd h
parts m G (node2 op p t u) (cover1 rs r k) n h = absurd h
parts m G (node2 op p t u) (cover2 rs r k j) n h = record { rs = rs; e = h.0; c = m.sum (m.sum (rule_cost m G r) (cover_cost m G k)) (cover_cost m G j); run = h.3; base_cover = (r, h.1, h.2, k, j, h.4, h.5, h.6, refl); is = over_is m G rs (m.sum (m.sum (rule_cost m G r) (cover_cost m G k)) (cover_cost m G j)) }

pub whole : {C : Type 0} (m : Model C) (G : Lists C) (t : Tree) (rs : List ℕ) (n e : ℕ) (c : C) → Run G rs n e → BaseCover m G t e c → (k : Cover) × Covers G k t n × (rank_of m G k ≡ over m G rs (c, 0))
whole m G (node0 op p) rs n e c run s = (cover0 rs s.0, (e, run, s.1), sym (over_is m G rs (rule_cost m G s.0)) ∙ ap (λ z. over m G rs (z, 0)) s.2)
whole m G (node1 op p t) rs n e c run s = (cover1 rs s.0 s.2, (e, s.1, run, s.3, s.4), sym (over_is m G rs (m.sum (rule_cost m G s.0) (cover_cost m G s.2))) ∙ ap (λ z. over m G rs (z, 0)) s.5)
whole m G (node2 op p t u) rs n e c run s = (cover2 rs s.0 s.3 s.4, (e, s.1, s.2, run, s.5, s.6, s.7), sym (over_is m G rs (m.sum (m.sum (rule_cost m G s.0) (cover_cost m G s.3)) (cover_cost m G s.4))) ∙ ap (λ z. over m G rs (z, 0)) s.8)

module _ {C : Type 0} {m : Model C} (l : Laws m) {G : Lists C} (sealed : Sealed m G) where
  from_base_cover : (t : Tree) (k : Cover) (n : ℕ) → size t ≤ 2048 → ((e : ℕ) (c : C) → BaseCover m G t e c → m.weight c + 31000 ≤ 32000 * size t) → Covers G k t n → m.weight (cover_cost m G k) ≤ 32000 * size t
  from_base_cover t k n s f h =
      let p = parts m G t k n h in
      let w = f p.e p.c p.base_cover in
      let v : m.weight (over m G p.rs (p.c, 0)).0 ≤ m.weight p.c + 31000 = run_weight sealed l (m.weight p.c) (omega arith) p.rs n p.e (p.c, 0) p.run (omega arith) in
      omega (arith, subst (λ z. m.weight z.0 ≤ m.weight p.c + 31000) p.is v)

  base_cover0_weight : (op : ℕ) (e : ℕ) (c : C) (r : ℕ) → RuleIs G r e (base0 op) → rule_cost m G r ≡ c → m.weight c ≤ 1000
  base_cover0_weight op e c r i eq = subst (λ z. m.weight z ≤ 1000) eq (rule_cost_bounds sealed r e (base0 op) i).light

  base_cover1_weight : (e r : ℕ) (sh : FormOf) (x c : C) (w : ℕ) → w ≤ 65536000 → RuleIs G r e sh → m.weight x ≤ w → m.sum (rule_cost m G r) x ≡ c → m.weight c ≤ 1000 + w
  base_cover1_weight e r sh x c w s i h eq =
      let k = (rule_cost_bounds sealed r e sh i).light in
      let v : m.weight (m.sum (rule_cost m G r) x) ≤ 1000 + w = omega (arith, l.sum_weight (rule_cost m G r) x (omega arith)) in
      subst (λ z. m.weight z ≤ 1000 + w) eq v

  base_cover2_weight : (e r : ℕ) (sh : FormOf) (x y c : C) (w v : ℕ) → w + v ≤ 65536000 → RuleIs G r e sh → m.weight x ≤ w → m.weight y ≤ v → m.sum (m.sum (rule_cost m G r) x) y ≡ c → m.weight c ≤ 1000 + w + v
  base_cover2_weight e r sh x y c w v s i h k eq =
      let u = base_cover1_weight e r sh x (m.sum (rule_cost m G r) x) w (omega arith) i h refl in
      let z : m.weight (m.sum (m.sum (rule_cost m G r) x) y) ≤ 1000 + w + v = omega (arith, l.sum_weight (m.sum (rule_cost m G r) x) y (omega arith)) in
      subst (λ z. m.weight z ≤ 1000 + w + v) eq z

  -- a node adds at most 32 rules
  pub cover_weight : (t : Tree) (k : Cover) (n : ℕ) → size t ≤ 2048 → Covers G k t n → m.weight (cover_cost m G k) ≤ 32000 * size t
  cover_weight (node0 op p) k n s h = from_base_cover (node0 op p) k n s (λ e c st. (let w = base_cover0_weight op e c st.0 st.1 st.2 in omega arith)) h
  cover_weight (node1 op p t) k n s h = from_base_cover (node1 op p t) k n s (λ e c st. (let w = base_cover1_weight e st.0 (base1 op st.1) (cover_cost m G st.2) c (32000 * size t) (omega arith) st.3 (cover_weight t st.2 st.1 (omega arith) st.4) st.5 in omega arith)) h
  cover_weight (node2 op p t u) k n s h = from_base_cover (node2 op p t u) k n s (λ e c st. (let w = base_cover2_weight e st.0 (base2 op st.1 st.2) (cover_cost m G st.3) (cover_cost m G st.4) c (32000 * size t) (32000 * size u) (omega arith) st.5 (cover_weight t st.3 st.1 (omega arith) st.6) (cover_weight u st.4 st.2 (omega arith) st.7) st.8 in omega arith)) h

  pub base_cover_light : (t : Tree) (e : ℕ) (c : C) → size t ≤ 2048 → BaseCover m G t e c → m.weight c ≤ light
  base_cover_light t e c s st =
      let w = whole m G t [] e e c (record { linked = refl; simple = (tt, tt) }) st in
      let v : m.weight c ≤ 32000 * size t = subst (λ z. m.weight z.0 ≤ 32000 * size t) w.2 (cover_weight t w.0 e s w.1) in
      omega arith

  pub over_le : (rs : List ℕ) (n e : ℕ) (p q : Rank C) → Run G rs n e → m.weight p.0 ≤ light → m.weight q.0 ≤ light → Le (by_rank m) p q → Le (by_rank m) (over m G rs p) (over m G rs q)
  over_le [] n e p q run f g h = h
  over_le (r ∷ rs) n e p q run f g h =
      let rest = run_rest sealed r rs n e run in
      let w = (rule_cost_bounds sealed r n (chain (source G r)) run.linked.0).light in
      up_le l (over m G rs p) (over m G rs q) (rule_cost m G r) (run_fair sealed l rs (source G r) e p rest f) (run_fair sealed l rs (source G r) e q rest g) (omega arith) (over_le rs (source G r) e p q rest f g h)
