-- Every cost that is formed stays light.
use Rattle.std.proofs.Common.{◌≡◌, ℕ, zero, suc, ◌≤◌, List, [], ◌∷◌, map, length, take, replicate, Some, None, Option, sym, refl, ap, ◌∙◌, subst, arith}
use Rattle.std.specs.List.{slice_get}
use Rattle.cost.specs.Model.{Model, Laws}
use Rattle.grammar.specs.Lists.{FormOf, RuleOf, Lists, rule, Sealed}
use Rattle.covers.specs.Trees.{count, Applied, Tree, node0, node1, node2, size}
use Rattle.covers.specs.Covers.{Cover, Covers}
use Rattle.covers.specs.Ranks.{Rank, Ranks, at, base_offer, chain_offer, bases, round, rounds, kid_ranks}
use Rattle.covers.specs.Rows.{row, kid_rows, as_ranks}
use Rattle.covers.specs.Steps.{Step, steps, total}
use Rattle.covers.specs.Weights.{third, after_bases, after_rounds, LightFrom, LightTree}
use Rattle.covers.proofs.Relaxing.{some_is, none_some}
use Rattle.covers.proofs.Closure.{Numbered, Held, held_fair, held_round, held_rounds, held_none}
use Rattle.covers.proofs.BaseParts.{base_cover_light, cover_weight}
use Rattle.covers.proofs.Bases.{KidsRight, offer_base_cover, base_covers_bases, base_covers_blank, base_ranks, base_covers}
use Rattle.covers.proofs.TreeRanks.{base_ranks_light}
use Rattle.covers.proofs.Chosen.{kids_right}
use Rattle.covers.proofs.Shifts.{at_map, Weighs, shift}
use Rattle.covers.proofs.RowSteps.{blank_shift, chain_weighs, chain_shift, bases_shift, round_shift, rounds_shift, Less, less1, less2}
use Rattle.covers.proofs.Rights.{row_right, least_light}
use Rattle.covers.proofs.StepLists.{steps_length, steps_few, Cheap, sum_all_weight, total_is, sums}

nth_take : {A : Type 0} (i : ℕ) (xs : List A) (j : ℕ) (x : A) → slice_get (take i xs) j ≡ Some x → slice_get xs j ≡ Some x
nth_take zero xs j x e = absurd (none_some x e)
nth_take (suc i) [] j x e = e
nth_take (suc i) (y ∷ xs) zero x e = e
nth_take (suc i) (y ∷ xs) (suc j) x e = nth_take i xs j x e

first_rules : {C : Type 0} (G : Lists C) (i : ℕ) → Numbered G (take i G.rules)
first_rules G i j ρ e = (suc j, nth_take i G.rules j ρ e)

rule_place : {C : Type 0} (G : Lists C) (r : ℕ) (ρ : RuleOf C) → rule G r ≡ Some ρ → (i : ℕ) × (slice_get G.rules i ≡ Some ρ)
rule_place G zero ρ e = absurd (none_some ρ e)
rule_place G (suc i) ρ e = (i, e)

shift_some : {C : Type 0} (m : Model C) (z : C) (o : Option (Rank C)) (p : Rank C) → shift m z o ≡ Some p → (q : Rank C) × (o ≡ Some q) × (m.diff q.0 z ≡ p.0)
shift_some m z None p e = absurd (none_some p e)
shift_some m z (Some q) p e = (q, refl, ap (λ x. x.0) (some_is (m.diff q.0 z, q.1) p e))

cheap_take : {C : Type 0} (m : Model C) (G : Lists C) (i : ℕ) (xs : List Step) → Cheap m G xs → Cheap m G (take i xs)
cheap_take m G zero xs h = tt
cheap_take m G (suc i) [] h = tt
cheap_take m G (suc i) (x ∷ xs) h = (h.0, cheap_take m G i xs h.1)

take_short : {A : Type 0} (i : ℕ) (xs : List A) → length (take i xs) ≤ length xs
take_short zero xs = omega arith
take_short (suc i) [] = omega arith
take_short (suc i) (x ∷ xs) = (let h = take_short i xs in omega arith)

module _ {C : Type 0} {m : Model C} (l : Laws m) {G : Lists C} (sealed : Sealed m G) where
  shifted : (z : C) → m.weight z ≤ 140000000 → (o : Option (Rank C)) → Weighs m 100000000 o → Weighs m third (shift m z o)
  shifted z wz o w p e =
      let h = shift_some m z o p e in
      let q = w h.0 h.1 in
      let d = l.diff_weight h.0.0 z (omega arith) in
      let v : m.weight (m.diff h.0.0 z) ≤ third = omega arith in
      subst (λ x. m.weight x ≤ third) h.2 v

  module _ (t : Tree) (kids : KidsRight m G t) (small : size t ≤ 2048) where
    abbrev blank : Ranks C
    blank = replicate (count G) None

    abbrev base : Ranks C
    base = base_ranks l sealed t kids

    held : (j i : ℕ) → Held m G base (after_rounds m G (kid_ranks m G t) j i)
    held j i = (let lights = base_ranks_light l sealed t kids small in held_round l sealed base lights (take i G.rules) (first_rules G i) (rounds m j base G.rules) (held_rounds l sealed base lights j base (held_none l sealed base lights (base_covers l sealed t kids).long)))

    own_bases : (i n : ℕ) → Weighs m 100000000 (at (after_bases m G (kid_ranks m G t) i) n)
    own_bases i n p e =
        let b = base_covers_bases l sealed t kids (take i G.rules) (first_rules G i) blank (base_covers_blank l sealed t kids) in
        let w = base_cover_light l sealed t n p.0 small (b.held n p e).1 in
        omega arith

    own_base : (r : ℕ) (ρ : RuleOf C) → rule G r ≡ Some ρ → Weighs m 100000000 (base_offer m (kid_ranks m G t) ρ.cost ρ.form)
    own_base r ρ stands p e = (let w = base_cover_light l sealed t ρ.left p.0 small (offer_base_cover l sealed t kids r ρ stands ρ.form refl p e).1 in omega arith)

    own_rounds : (j i n : ℕ) → Weighs m 80000000 (at (after_rounds m G (kid_ranks m G t) j i) n)
    own_rounds j i n p e = held_fair l sealed base (base_ranks_light l sealed t kids small) (after_rounds m G (kid_ranks m G t) j i) (held j i) n p e

    own_chain : (j i r : ℕ) (ρ : RuleOf C) → rule G r ≡ Some ρ → Weighs m 100000000 (chain_offer m (after_rounds m G (kid_ranks m G t) j i) ρ.cost ρ.form)
    own_chain j i r ρ stands = chain_weighs l (after_rounds m G (kid_ranks m G t) j i) ρ.cost ρ.form (sealed.priced.light r ρ stands) (own_rounds j i)

    from_own : LightFrom m G (kid_ranks m G t)
    from_own = record {
      bases_held = λ i n p e. (let w = own_bases i n p e in omega arith);
      bases_given = λ r ρ p stands e. (let w = own_base r ρ stands p e in omega arith);
      chains_held = λ j i n p e. (let w = own_rounds j i n p e in omega arith);
      chains_given = λ j i r ρ p stands e. (let w = own_chain j i r ρ stands p e in omega arith);
    }

    -- the same where all costs are less by z
    module _ (other : Applied (Ranks C)) (z : C) (wz : m.weight z ≤ 140000000) (base_shift : (c : C) (sh : FormOf) → m.weight c ≤ 1000 → base_offer m other c sh ≡ shift m z (base_offer m (kid_ranks m G t) c sh)) where
      bases_less : (ρs : List (RuleOf C)) → Numbered G ρs → bases m other blank ρs ≡ map (shift m z) (bases m (kid_ranks m G t) blank ρs)
      bases_less ρs all = ap (λ x. bases m other x ρs) (sym (blank_shift m z (count G))) ∙ bases_shift l sealed t kids small other z wz base_shift ρs all blank (base_covers_blank l sealed t kids)

      rounds_less : (j i : ℕ) → after_rounds m G other j i ≡ map (shift m z) (after_rounds m G (kid_ranks m G t) j i)
      rounds_less j i =
          let lights = base_ranks_light l sealed t kids small in
          let none = held_none l sealed base lights (base_covers l sealed t kids).long in
          let start = ap (λ x. rounds m j x G.rules) (bases_less G.rules (λ k ρ e. (suc k, e))) ∙ rounds_shift l sealed t kids small other z wz base_shift j base none in
          ap (λ x. round m x (take i G.rules)) start ∙ round_shift l sealed t kids small other z wz base_shift (take i G.rules) (first_rules G i) (rounds m j base G.rules) (held_rounds l sealed base lights j base none)

      at_less : (xs ys : Ranks C) → ys ≡ map (shift m z) xs → (n : ℕ) → Weighs m 100000000 (at xs n) → Weighs m third (at ys n)
      at_less xs ys same n w = subst (Weighs m third) (sym (ap (λ x. at x n) same ∙ at_map (shift m z) refl xs n)) (shifted z wz (at xs n) w)

      from_other : LightFrom m G other
      from_other = record {
        bases_held = λ i n. at_less (after_bases m G (kid_ranks m G t) i) (after_bases m G other i) (bases_less (take i G.rules) (first_rules G i)) n (own_bases i n);
        bases_given = λ r ρ p stands. subst (Weighs m third) (sym (base_shift ρ.cost ρ.form (sealed.priced.light r ρ stands))) (shifted z wz (base_offer m (kid_ranks m G t) ρ.cost ρ.form) (own_base r ρ stands)) p;
        chains_held = λ j i n. at_less (after_rounds m G (kid_ranks m G t) j i) (after_rounds m G other j i) (rounds_less j i) n (λ p e. (let w = own_rounds j i n p e in omega arith));
        chains_given = λ j i r ρ p stands. (let xs = after_rounds m G (kid_ranks m G t) j i in subst (Weighs m third) (sym (ap (λ x. chain_offer m x ρ.cost ρ.form) (rounds_less j i) ∙ chain_shift l z wz xs ρ.cost ρ.form (sealed.priced.light r ρ stands) (own_rounds j i))) (shifted z wz (chain_offer m xs ρ.cost ρ.form) (own_chain j i r ρ stands)) p);
      }

  from_less : (t : Tree) → size t ≤ 2048 → Less l sealed t → LightFrom m G (as_ranks (kid_rows m G t))
  from_less t s h = from_other t (kids_right l sealed t s) s (as_ranks (kid_rows m G t)) h.z h.weighs h.base_shift

  from_rows : (t : Tree) → size t ≤ 2048 → LightFrom m G (as_ranks (kid_rows m G t))
  from_rows (node0 op p) s = from_own (node0 op p) tt s
  from_rows (node1 op p t) s = from_less (node1 op p t) s (less1 l sealed op p t s)
  from_rows (node2 op p t u) s = from_less (node2 op p t u) s (less2 l sealed op p t u s)

  above_light : (t : Tree) → size t ≤ 2048 → (n r : ℕ) (x : C) → at (row m G t) n ≡ Some (r, x) → m.weight x ≤ 131072000
  above_light t s n r x e =
      let h = ((row_right l sealed t s).some n r x).0 e in
      let wc = least_light l sealed t s n h.cost h.least in
      let wf = least_light l sealed t s h.least_of_all.some.0 h.lowest h.least_of_all.some.1 in
      let d = l.diff_weight h.cost h.lowest (omega arith) in
      let v : m.weight (m.diff h.cost h.lowest) ≤ 131072000 = omega arith in
      subst (λ z. m.weight z ≤ 131072000) h.above v

  -- a rule's cost with one that weighs at most 131,072,000
  under_light : (r : ℕ) (ρ : RuleOf C) (c : C) → rule G r ≡ Some ρ → m.weight c ≤ 131072000 → m.weight (m.sum ρ.cost c) ≤ third
  under_light r ρ c stands w =
      let light = sealed.priced.light r ρ stands in
      let sum = l.sum_weight ρ.cost c (omega arith) in
      omega arith

  totals_light : (t : Tree) → size t ≤ 2048 → (k : Cover) (n i : ℕ) → Covers G k t n → m.weight (total m G (take i (steps t k))) ≤ 65536000
  totals_light t s k n i h =
      let xs = take i (steps t k) in
      let cheap = cheap_take m G i (steps t k) (sums l sealed t k n 0 s h).cheap in
      let len = steps_length G t k n 0 h in
      let few = steps_few sealed t k n h in
      let short = take_short i (steps t k) in
      let fits : length xs ≤ 65536 = omega arith in
      let w = sum_all_weight l sealed xs cheap fits in
      subst (λ z. m.weight z ≤ 65536000) (sym (total_is l sealed xs cheap fits)) (omega arith)

  pub light_tree : (t : Tree) → size t ≤ 2048 → LightTree m G t
  light_tree t s = record {
    covers = λ k n h. cover_weight l sealed t k n s h;
    least = least_light l sealed t s;
    least_of_all = λ f h. least_light l sealed t s h.some.0 f h.some.1;
    above = above_light t s;
    under_rule = λ r ρ n c stands h. under_light r ρ c stands (let w = least_light l sealed t s n c h in omega arith);
    above_under_rule = λ r ρ n q x stands e. under_light r ρ x stands (above_light t s n q x e);
    from_least_costs = from_own t (kids_right l sealed t s) s;
    from_rows = from_rows t s;
    totals = totals_light t s;
  }
