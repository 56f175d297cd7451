-- A tree's row, from its operator and its kids' rows.
use Rattle.std.proofs.Common.{◌≡◌, ℕ, zero, suc, pred, ◌≤◌, Bool, false, cond, eqb, List, [], ◌∷◌, map, replicate, ℤ, Some, None, Option, sym, refl, ap, ◌∙◌, subst, arith}
use Rattle.std.specs.List.{slice_get}
use Rattle.cost.specs.Model.{Model, Laws}
use Rattle.grammar.specs.Lists.{FormOf, chain, base0, base1, base2, RuleOf, Lists, rule, Sealed}
use Rattle.covers.specs.Trees.{Applied, leaf, unary, binary, count, Tree, node0, node1, node2, size}
use Rattle.covers.specs.Covers.{Least, LeastOfAll}
use Rattle.covers.specs.Ranks.{Rank, Ranks, at, further, with1, with2, base_offer, chain_offer, relax, bases, round, rounds, ranked, ranks_of, kid_ranks, is_rank, offer, offers, first_from, choose, choices, best_of, best}
use Rattle.covers.specs.Rounds.{Light}
use Rattle.covers.specs.Rows.{least_in, or_zero, least_of_all, entry, row_of, row, kid_rows, as_rank, as_ranks, row_from}
use Rattle.covers.proofs.Relaxing.{some_is, none_some}
use Rattle.covers.proofs.Closure.{Numbered, Held, further_some, held_fair, held_relax, held_round, held_none, closed_held}
use Rattle.covers.proofs.BaseParts.{base_cover_light}
use Rattle.covers.proofs.Bases.{KidsRight, right_light, offer_base_cover, BaseCovers, base_covers_next, base_covers_blank, base_ranks, base_covers}
use Rattle.covers.proofs.TreeRanks.{base_ranks_light, right_ranks}
use Rattle.covers.proofs.Chosen.{told, best_at, kids_right, ranks_kid_ranks, row_has, right_at}
use Rattle.covers.proofs.Shifts.{at_map, cond_map, Weighs, shift, plain, relax_shift, further_shift, is_rank_shift, with1_plain, with2_plain}
use Rattle.covers.proofs.Lowests.{shift_all, row_shift, has_lowest, lowest_one, lowest_below}

pub first_same : {C : Type 0} (f g : RuleOf C → Bool) (ρs : List (RuleOf C)) → ((i : ℕ) (ρ : RuleOf C) → slice_get ρs i ≡ Some ρ → f ρ ≡ g ρ) → (x : ℕ) → first_from f x ρs ≡ first_from g x ρs
first_same f g [] h x = refl
first_same f g (ρ ∷ ρs) h x = λ j. cond (h 0 ρ refl j) x (first_same f g ρs (λ i. h (suc i)) (suc x) j)

pub blank_shift : {C : Type 0} (m : Model C) (z : C) (n : ℕ) → map (shift m z) (replicate n None) ≡ replicate n None
blank_shift m z zero = refl
blank_shift m z (suc n) = ap (λ x. None ∷ x) (blank_shift m z n)

-- a row's costs are the ranks' less the least of all
lift_entry : {C : Type 0} (m : Model C) (G : Lists C) (s : Applied (Ranks C)) (row : Ranks C) (f : C) (n : ℕ) (o : Option (Rank C)) → as_rank (entry m f (choose m G s row n o)) ≡ plain m f o
lift_entry m G s row f n None = refl
lift_entry m G s row f n (Some p) = refl

lift_choices : {C : Type 0} (m : Model C) (G : Lists C) (s : Applied (Ranks C)) (row : Ranks C) (f : C) (n : ℕ) (os : Ranks C) → map as_rank (map (entry m f) (choices m G s row n os)) ≡ map (plain m f) os
lift_choices m G s row f n [] = refl
lift_choices m G s row f n (o ∷ os) = λ i. lift_entry m G s row f n o i ∷ lift_choices m G s row f (suc n) os i

module _ {C : Type 0} {m : Model C} (l : Laws m) where
  pub chain_weighs : (row : Ranks C) (c : C) (sh : FormOf) → m.weight c ≤ 1000 → ((s : ℕ) → Weighs m 80000000 (at row s)) → Weighs m 100000000 (chain_offer m row c sh)
  chain_weighs row c (chain s) wc w p e =
      let f = further_some m c (at row s) p e in
      let wx = w s f.0 f.1 in
      let v = l.sum_weight f.0.0 c (omega arith) in
      let u : m.weight (m.sum f.0.0 c) ≤ 100000000 = omega arith in
      subst (λ y. m.weight y.0 ≤ 100000000) f.2 u
  chain_weighs row c (base0 o) wc w p e = absurd (none_some p e)
  chain_weighs row c (base1 o a) wc w p e = absurd (none_some p e)
  chain_weighs row c (base2 o a b) wc w p e = absurd (none_some p e)

  pub chain_shift : (z : C) → m.weight z ≤ 140000000 → (row : Ranks C) (c : C) (sh : FormOf) → m.weight c ≤ 1000 → ((s : ℕ) → Weighs m 80000000 (at row s)) → chain_offer m (map (shift m z) row) c sh ≡ shift m z (chain_offer m row c sh)
  chain_shift z wz row c (chain s) wc w = ap (further m c) (at_map (shift m z) refl row s) ∙ further_shift l z wz c (at row s) wc (w s)
  chain_shift z wz row c (base0 o) wc w = refl
  chain_shift z wz row c (base1 o a) wc w = refl
  chain_shift z wz row c (base2 o a b) wc w = refl

  module _ {G : Lists C} (sealed : Sealed m G) where
    module _ (t : Tree) (kids : KidsRight m G t) (small : size t ≤ 2048) (other : Applied (Ranks C)) (z : C) (wz : m.weight z ≤ 140000000) (base_shift : (c : C) (sh : FormOf) → m.weight c ≤ 1000 → base_offer m other c sh ≡ shift m z (base_offer m (kid_ranks m G t) c sh)) where
      pub base_weighs : (r : ℕ) (ρ : RuleOf C) → rule G r ≡ Some ρ → (sh : FormOf) → ρ.form ≡ sh → Weighs m 100000000 (base_offer m (kid_ranks m G t) ρ.cost sh)
      base_weighs r ρ stands sh formed p e = (let w = base_cover_light l sealed t ρ.left p.0 small (offer_base_cover l sealed t kids r ρ stands sh formed p e).1 in omega arith)

      pub bases_shift : (ρs : List (RuleOf C)) → Numbered G ρs → (row : Ranks C) → BaseCovers l sealed t row → bases m other (map (shift m z) row) ρs ≡ map (shift m z) (bases m (kid_ranks m G t) row ρs)
      bases_shift [] all row h = refl
      bases_shift (ρ ∷ ρs) all row h =
          let n = all 0 ρ refl in
          let o = base_offer m (kid_ranks m G t) ρ.cost ρ.form in
          let w : Weighs m 100000000 (at row ρ.left) = λ p e. (let v = base_cover_light l sealed t ρ.left p.0 small (h.held ρ.left p e).1 in omega arith) in
          let one : relax m (map (shift m z) row) ρ.left (base_offer m other ρ.cost ρ.form) ≡ map (shift m z) (relax m row ρ.left o) = ap (relax m (map (shift m z) row) ρ.left) (base_shift ρ.cost ρ.form (sealed.priced.light n.0 ρ n.1)) ∙ relax_shift l z wz row ρ.left o w (base_weighs n.0 ρ n.1 ρ.form refl) in
          ap (λ x. bases m other x ρs) one ∙ bases_shift ρs (λ i. all (suc i)) (relax m row ρ.left o) (base_covers_next l sealed t kids row h n.0 ρ n.1)

      abbrev pub base : Ranks C
      base = base_ranks l sealed t kids

      pub lights : Light m base
      lights = base_ranks_light l sealed t kids small

      pub round_shift : (ρs : List (RuleOf C)) → Numbered G ρs → (row : Ranks C) → Held m G base row → round m (map (shift m z) row) ρs ≡ map (shift m z) (round m row ρs)
      round_shift [] all row h = refl
      round_shift (ρ ∷ ρs) all row h =
          let n = all 0 ρ refl in
          let wc = sealed.priced.light n.0 ρ n.1 in
          let fair : (s : ℕ) → Weighs m 80000000 (at row s) = held_fair l sealed base lights row h in
          let o = chain_offer m row ρ.cost ρ.form in
          let w : Weighs m 100000000 (at row ρ.left) = λ p e. (let v = fair ρ.left p e in omega arith) in
          let one : relax m (map (shift m z) row) ρ.left (chain_offer m (map (shift m z) row) ρ.cost ρ.form) ≡ map (shift m z) (relax m row ρ.left o) = ap (relax m (map (shift m z) row) ρ.left) (chain_shift z wz row ρ.cost ρ.form wc fair) ∙ relax_shift l z wz row ρ.left o w (chain_weighs row ρ.cost ρ.form wc fair) in
          ap (λ x. round m x ρs) one ∙ round_shift ρs (λ i. all (suc i)) (relax m row ρ.left o) (held_relax l sealed base lights row h n.0 ρ n.1)

      pub rounds_shift : (j : ℕ) (row : Ranks C) → Held m G base row → rounds m j (map (shift m z) row) G.rules ≡ map (shift m z) (rounds m j row G.rules)
      rounds_shift zero row h = refl
      rounds_shift (suc j) row h =
          let all : Numbered G G.rules = λ i ρ e. (suc i, e) in
          ap (λ x. rounds m j x G.rules) (round_shift G.rules all row h) ∙ rounds_shift j (round m row G.rules) (held_round l sealed base lights G.rules all row h)

      abbrev own : Ranks C
      own = ranked m G (kid_ranks m G t)

      ranked_shift : ranked m G other ≡ map (shift m z) own
      ranked_shift =
          let all : Numbered G G.rules = λ i ρ e. (suc i, e) in
          let started : bases m other (replicate (count G) None) G.rules ≡ map (shift m z) base = ap (λ x. bases m other x G.rules) (sym (blank_shift m z (count G))) ∙ bases_shift G.rules all (replicate (count G) None) (base_covers_blank l sealed t kids) in
          ap (λ x. rounds m (pred (count G)) x G.rules) started ∙ rounds_shift (pred (count G)) base (held_none l sealed base lights (base_covers l sealed t kids).long)

      own_fair : (s : ℕ) → Weighs m 80000000 (at own s)
      own_fair = held_fair l sealed base lights own (closed_held l sealed base lights (base_covers l sealed t kids).long)

      offer_shift : (c : C) (sh : FormOf) → m.weight c ≤ 1000 → offer m other (map (shift m z) own) c sh ≡ shift m z (offer m (kid_ranks m G t) own c sh)
      offer_shift c (chain s) wc = chain_shift z wz own c (chain s) wc own_fair
      offer_shift c (base0 o) wc = base_shift c (base0 o) wc
      offer_shift c (base1 o a) wc = base_shift c (base1 o a) wc
      offer_shift c (base2 o a b) wc = base_shift c (base2 o a b) wc

      offer_weighs : (r : ℕ) (ρ : RuleOf C) → rule G r ≡ Some ρ → (sh : FormOf) → ρ.form ≡ sh → Weighs m 100000000 (offer m (kid_ranks m G t) own ρ.cost sh)
      offer_weighs r ρ stands (chain s) formed = chain_weighs own ρ.cost (chain s) (sealed.priced.light r ρ stands) own_fair
      offer_weighs r ρ stands (base0 o) formed = base_weighs r ρ stands (base0 o) formed
      offer_weighs r ρ stands (base1 o a) formed = base_weighs r ρ stands (base1 o a) formed
      offer_weighs r ρ stands (base2 o a b) formed = base_weighs r ρ stands (base2 o a b) formed

      offers_shift : (n : ℕ) (p : Rank C) → m.weight p.0 ≤ 80000000 → (i : ℕ) (ρ : RuleOf C) → slice_get G.rules i ≡ Some ρ → offers m other (map (shift m z) own) n (m.diff p.0 z, p.1) ρ ≡ offers m (kid_ranks m G t) own n p ρ
      offers_shift n p wp i ρ e =
          let o = offer m (kid_ranks m G t) own ρ.cost ρ.form in
          let same : is_rank m (m.diff p.0 z, p.1) (offer m other (map (shift m z) own) ρ.cost ρ.form) ≡ is_rank m p o = ap (is_rank m (m.diff p.0 z, p.1)) (offer_shift ρ.cost ρ.form (sealed.priced.light (suc i) ρ e)) ∙ is_rank_shift l z wz p o (omega arith) (offer_weighs (suc i) ρ e ρ.form refl) in
          ap (λ x. cond (eqb ρ.left n) x false) same

      choose_shift : (n : ℕ) (o : Option (Rank C)) → Weighs m 80000000 o → choose m G other (map (shift m z) own) n (shift m z o) ≡ shift_all m z (choose m G (kid_ranks m G t) own n o)
      choose_shift n None w = refl
      choose_shift n (Some p) w = λ j. Some (m.diff p.0 z, p.1, first_same (offers m other (map (shift m z) own) n (m.diff p.0 z, p.1)) (offers m (kid_ranks m G t) own n p) G.rules (offers_shift n p (w p refl)) 1 j)

      choices_shift : (os : Ranks C) → ((i : ℕ) → Weighs m 80000000 (at os i)) → (n : ℕ) → choices m G other (map (shift m z) own) n (map (shift m z) os) ≡ map (shift_all m z) (choices m G (kid_ranks m G t) own n os)
      choices_shift [] w n = refl
      choices_shift (o ∷ os) w n = λ j. choose_shift n o (w 0) j ∷ choices_shift os (λ i. w (suc i)) (suc n) j

      best_shift : best_of m G other ≡ map (shift_all m z) (best_of m G (kid_ranks m G t))
      best_shift = ap (λ x. choices m G other x 0 x) ranked_shift ∙ choices_shift own own_fair 0

      pub same_row : ((i : ℕ) (x : C × ℕ × ℕ) → at (best_of m G (kid_ranks m G t)) i ≡ Some x → m.weight x.0 ≤ 66000000) → row_of m (best_of m G other) ≡ row_of m (best_of m G (kid_ranks m G t))
      same_row w = ap (row_of m) best_shift ∙ row_shift l z wz (best_of m G (kid_ranks m G t)) w

    best_light : (t : Tree) → size t ≤ 2048 → (i : ℕ) (x : C × ℕ × ℕ) → at (best m G t) i ≡ Some x → m.weight x.0 ≤ 66000000
    best_light t s i x e = (let w = right_light l sealed t (ranks_of m G t) (right_ranks l sealed t s) s i (x.0, x.1) (told l sealed t i x.0 x.1 x.2 e).0 in omega arith)

    least_of_all_by : (o : Option C) → ((f : C) → o ≡ Some f → m.weight f ≤ 66000000) → m.weight (or_zero m o) ≤ 66000000
    least_of_all_by None h = omega (arith, l.zero_weight)
    least_of_all_by (Some f) h = h f refl

    pub least_of_all_light : (t : Tree) → size t ≤ 2048 → m.weight (least_of_all m (best m G t)) ≤ 66000000
    least_of_all_light t s = least_of_all_by (least_in m (best m G t)) (lowest_one m (λ c. m.weight c ≤ 66000000) (best m G t) (best_light t s))

    pub ranks_light : (t : Tree) → size t ≤ 2048 → (i : ℕ) → Weighs m 66000000 (at (ranks_of m G t) i)
    ranks_light t s i p e = (let w = right_light l sealed t (ranks_of m G t) (right_ranks l sealed t s) s i p e in omega arith)

    pub lift_row : (t : Tree) → map as_rank (row m G t) ≡ map (plain m (least_of_all m (best m G t))) (ranks_of m G t)
    lift_row t = lift_choices m G (kid_ranks m G t) (ranks_of m G t) (least_of_all m (best m G t)) 0 (ranks_of m G t)

    pub base_shift1 : (op : ℕ) (k : Ranks C) (f : C) → m.weight f ≤ 66000000 → ((i : ℕ) → Weighs m 66000000 (at k i)) → (c : C) (sh : FormOf) → m.weight c ≤ 1000 → base_offer m (unary op (map (plain m f) k)) c sh ≡ shift m f (base_offer m (unary op k) c sh)
    base_shift1 op k f wf w c (chain s) wc = refl
    base_shift1 op k f wf w c (base0 o) wc = refl
    base_shift1 op k f wf w c (base1 o a) wc = ap (λ x. cond (eqb o op) x None) (ap (with1 m c) (at_map (plain m f) refl k a) ∙ with1_plain l c f (at k a) wc wf (w a)) ∙ cond_map (shift m f) (eqb o op) (with1 m c (at k a)) None
    base_shift1 op k f wf w c (base2 o a b) wc = refl

    pub base_shift2 : (op : ℕ) (k j : Ranks C) (f g : C) → m.weight f ≤ 66000000 → m.weight g ≤ 66000000 → ((i : ℕ) → Weighs m 66000000 (at k i)) → ((i : ℕ) → Weighs m 66000000 (at j i)) → (c : C) (sh : FormOf) → m.weight c ≤ 1000 → base_offer m (binary op (map (plain m f) k) (map (plain m g) j)) c sh ≡ shift m (m.sum f g) (base_offer m (binary op k j) c sh)
    base_shift2 op k j f g wf wg w v c (chain s) wc = refl
    base_shift2 op k j f g wf wg w v c (base0 o) wc = refl
    base_shift2 op k j f g wf wg w v c (base1 o a) wc = refl
    base_shift2 op k j f g wf wg w v c (base2 o a b) wc = ap (λ x. cond (eqb o op) x None) ((λ i. with2 m c (at_map (plain m f) refl k a i) (at_map (plain m g) refl j b i)) ∙ with2_plain l c f g (at k a) (at j b) wc wf wg (w a) (v b)) ∙ cond_map (shift m (m.sum f g)) (eqb o op) (with2 m c (at k a) (at j b)) None

    best_is : (t : Tree) → best m G t ≡ best_of m G (kid_ranks m G t)
    best_is t = ap (λ x. choices m G (kid_ranks m G t) x 0 x) (ranks_kid_ranks l sealed t)

    -- what base rules give over the kids' rows is what they give over the kids' ranks, less z
    pub record Less (t : Tree) : Type 0 where
      pub z : C
      pub weighs : m.weight z ≤ 140000000
      pub base_shift : (c : C) (sh : FormOf) → m.weight c ≤ 1000 → base_offer m (as_ranks (kid_rows m G t)) c sh ≡ shift m z (base_offer m (kid_ranks m G t) c sh)

    pub less1 : (op : ℕ) (p : ℤ) (t : Tree) → size (node1 op p t) ≤ 2048 → Less (node1 op p t)
    less1 op p t s =
        let f = least_of_all m (best m G t) in
        let small : size t ≤ 2048 = omega arith in
        let wf = least_of_all_light t small in
        record {
          z = f;
          weighs = omega arith;
          base_shift = λ c sh wc. ap (λ x. base_offer m (unary op x) c sh) (lift_row t) ∙ base_shift1 op (ranks_of m G t) f wf (ranks_light t small) c sh wc;
        }

    pub less2 : (op : ℕ) (p : ℤ) (t u : Tree) → size (node2 op p t u) ≤ 2048 → Less (node2 op p t u)
    less2 op p t u s =
        let f = least_of_all m (best m G t) in
        let g = least_of_all m (best m G u) in
        let small : size t ≤ 2048 = omega arith in
        let little : size u ≤ 2048 = omega arith in
        let wf = least_of_all_light t small in
        let wg = least_of_all_light u little in
        let w = l.sum_weight f g (omega arith) in
        record {
          z = m.sum f g;
          weighs = omega arith;
          base_shift = λ c sh wc. (λ i. base_offer m (binary op (lift_row t i) (lift_row u i)) c sh) ∙ base_shift2 op (ranks_of m G t) (ranks_of m G u) f g wf wg (ranks_light t small) (ranks_light u little) c sh wc;
        }

    row_step : (t : Tree) → size t ≤ 2048 → Less t → row m G t ≡ row_from m G (kid_rows m G t)
    row_step t s h =
        let own = same_row t (kids_right l sealed t s) s (as_ranks (kid_rows m G t)) h.z h.weighs h.base_shift (λ i x e. best_light t s i x (ap (λ y. at y i) (best_is t) ∙ e)) in
        ap (row_of m) (best_is t) ∙ sym own

    -- without kids, with one and with two
    pub row_step0 : (op : ℕ) (p : ℤ) → row m G (node0 op p) ≡ row_from m G (leaf op)
    row_step0 op p = refl

    pub row_step1 : (op : ℕ) (p : ℤ) (t : Tree) → size (node1 op p t) ≤ 2048 → row m G (node1 op p t) ≡ row_from m G (unary op (row m G t))
    row_step1 op p t s = row_step (node1 op p t) s (less1 op p t s)

    pub row_step2 : (op : ℕ) (p : ℤ) (t u : Tree) → size (node2 op p t u) ≤ 2048 → row m G (node2 op p t u) ≡ row_from m G (binary op (row m G t) (row m G u))
    row_step2 op p t u s = row_step (node2 op p t u) s (less2 op p t u s)

    -- ---- what a row says

    pub entry_none : (f : C) (o : Option (C × ℕ × ℕ)) → entry m f o ≡ None → o ≡ None
    entry_none f None e = refl
    entry_none f (Some x) e = absurd (none_some (x.2, m.diff x.0 f) (sym e))

    pub entry_some : (f : C) (o : Option (C × ℕ × ℕ)) (r : ℕ) (x : C) → entry m f o ≡ Some (r, x) → (c : C) × (d : ℕ) × (o ≡ Some (c, d, r)) × (m.diff c f ≡ x)
    entry_some f None r x e = absurd (none_some (r, x) e)
    entry_some f (Some y) r x e =
        let h : ◌≡◌ {A = ℕ × C} (y.2, m.diff y.0 f) (r, x) = some_is (y.2, m.diff y.0 f) (r, x) e in
        (y.0, y.1, (λ i. Some (y.0, y.1, (h i).0)), ap (λ z. z.1) h)

    pub row_at : (t : Tree) (n : ℕ) → at (row m G t) n ≡ entry m (least_of_all m (best m G t)) (at (best m G t) n)
    row_at t n = at_map (entry m (least_of_all m (best m G t))) refl (best m G t) n

    pub least_of_all_is : (t : Tree) → size t ≤ 2048 → (n : ℕ) (x : C × ℕ × ℕ) → at (best m G t) n ≡ Some x → LeastOfAll m G t (least_of_all m (best m G t))
    least_of_all_is t s n x e =
        let h = has_lowest m (best m G t) n x e in
        let f = h.0 in
        let is : f ≡ least_of_all m (best m G t) = sym (ap (or_zero m) h.1) in
        subst (LeastOfAll m G t) is (record {
          some = lowest_one m (λ c. (i : ℕ) × Least m G t i c) (best m G t) (λ i y o. (i, (right_at l sealed t s i).least y.0 y.1 y.2 o)) f h.1;
          none_below = λ i c k. (let o = row_has l sealed t (ranks_of m G t) (right_ranks l sealed t s) i c k in let r = first_from (offers m (kid_ranks m G t) (ranks_of m G t) i (c, o.0)) 1 G.rules in lowest_below l (best m G t) i (c, o.0, r) f (best_at l sealed t i ∙ ap (choose m G (kid_ranks m G t) (ranks_of m G t) i) o.1) h.1);
        })
