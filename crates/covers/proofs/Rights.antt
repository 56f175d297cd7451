-- What is computed and what is defined are one: least costs, fewest chain rules, choices, rows, the chosen cover.
use Rattle.std.proofs.Common.{◌≡◌, ℕ, zero, suc, ◌*◌, ◌≤◌, ◌↔◌, List, [], ◌∷◌, length, Some, None, Option, sym, refl, ap, ◌∙◌, subst, inl, inr, arith}
use Rattle.std.proofs.lemmas.List.{length-map}
use Rattle.std.proofs.lemmas.Bool.{cases_lt}
use Rattle.std.specs.Option.{option_map}
use Rattle.cost.specs.Model.{Model, Laws}
use Rattle.grammar.specs.Lists.{FormOf, chain, base0, base1, base2, Lists, Sealed}
use Rattle.covers.specs.Trees.{count, Applied, Tree, node0, node1, node2, size, TreeFits}
use Rattle.covers.specs.Covers.{source, RuleIs, Linked, Cover, cover0, cover1, cover2, Covers, cover_cost, Least, Fewest, Lowest, Choice, Chooses, LeastOfAll}
use Rattle.covers.specs.Ranks.{Ranks, Best, at, choices, best, ranks_of, kid_ranks}
use Rattle.covers.specs.Rows.{entry, least_of_all, row}
use Rattle.covers.specs.Steps.{left_kid, right_kid, best_chains, best_rule, follow, run_end, following, FollowsRun, Follows}
use Rattle.covers.specs.Theorems.{NoCover, Right, EntryIs, RowRight, ChosenRight, Alike}
use Rattle.covers.proofs.Order.{cost_order, le_same}
use Rattle.covers.proofs.Relaxing.{some_is, none_some}
use Rattle.covers.proofs.Runs.{parts_inside}
use Rattle.covers.proofs.Closure.{closed_held}
use Rattle.covers.proofs.Bases.{base_ranks, base_covers}
use Rattle.covers.proofs.TreeRanks.{base_ranks_light, right_ranks}
use Rattle.covers.proofs.Chosen.{least_same, fewest_same, kids_right, ranks_kid_ranks, right_at}
use Rattle.covers.proofs.Shifts.{diff_is}
use Rattle.covers.proofs.RowSteps.{entry_none, entry_some, row_at, least_of_all_is}
use Rattle.covers.proofs.Following.{some_or_none, best_has, best_least, chooses, left_is, left_of_two, right_of_two, chosen_good}
use Rattle.covers.proofs.NodeTrees.{mapped_some}
use Rattle.covers.proofs.BaseParts.{cover_weight}

mapped_none : {A B : Type 0} (f : A → B) (o : Option A) → option_map f o ≡ None → o ≡ None
mapped_none f None e = refl
mapped_none f (Some x) e = absurd (none_some (f x) (sym e))

lowest_one : (P : ℕ → Type 0) (r q : ℕ) → Lowest P r → Lowest P q → r ≡ q
lowest_one P r q f g = elim (cases_lt r q) [
  | inl h ↦ absurd (g.first r h f.holds)
  | inr h ↦ elim (cases_lt q r) [ inl k ↦ absurd (f.first q k g.holds) | inr k ↦ omega arith ]
]

choices_length : {C : Type 0} (m : Model C) (G : Lists C) (s : Applied (Ranks C)) (xs : Ranks C) (n : ℕ) (os : Ranks C) → length (choices m G s xs n os) ≡ length os
choices_length m G s xs n [] = refl
choices_length m G s xs n (o ∷ os) = ap suc (choices_length m G s xs (suc n) os)

module _ {C : Type 0} {m : Model C} {G : Lists C} (sealed : Sealed m G) where
  -- a tree with a cover fits its operators
  pub covered_fits : (t : Tree) (k : Cover) (n : ℕ) → Covers G k t n → TreeFits G.operators t
  covered_fits (node0 op p) (cover0 rs r) n h = parts_inside sealed r h.0 (base0 op) h.2
  covered_fits (node0 op p) (cover1 rs r k) n h = absurd h
  covered_fits (node0 op p) (cover2 rs r k j) n h = absurd h
  covered_fits (node1 op p t) (cover0 rs r) n h = absurd h
  covered_fits (node1 op p t) (cover1 rs r k) n h = ((parts_inside sealed r h.0 (base1 op h.1) h.3).0, covered_fits t k h.1 h.4)
  covered_fits (node1 op p t) (cover2 rs r k j) n h = absurd h
  covered_fits (node2 op p t u) (cover0 rs r) n h = absurd h
  covered_fits (node2 op p t u) (cover1 rs r k) n h = absurd h
  covered_fits (node2 op p t u) (cover2 rs r k j) n h = ((parts_inside sealed r h.0 (base2 op h.1 h.2) h.4).0, covered_fits t k h.1 h.5, covered_fits u j h.2 h.6)

module _ {C : Type 0} {m : Model C} (l : Laws m) {G : Lists C} (sealed : Sealed m G) where
  choice_one : (t : Tree) (n : ℕ) (c : C) (d r q : ℕ) → Choice m G t n c d r → Choice m G t n c d q → r ≡ q
  choice_one t n c zero r q f g = lowest_one _ r q f g
  choice_one t n c (suc d) r q f g = lowest_one _ r q f g

  module _ (t : Tree) (s : size t ≤ 2048) where
    -- the choice is that of `best`
    pub chooses_best : (n r : ℕ) (h : Chooses m G t n r) → at (best m G t) n ≡ Some (h.cost, h.chain_rules, r)
    chooses_best n r h =
        let b = best_has l sealed t s n h.cost h.chain_rules h.least h.fewest in
        let same : b.0 ≡ r = choice_one t n h.cost h.chain_rules b.0 r ((right_at l sealed t s n).choice h.cost h.chain_rules b.0 b.1) h.choice in
        b.1 ∙ (λ i. Some (h.cost, h.chain_rules, same i))

    pub least_one : (n : ℕ) (x y : C) → Least m G t n x → Least m G t n y → x ≡ y
    least_one = least_same l sealed t (ranks_of m G t) (right_ranks l sealed t s)

    fewest_one : (n d e : ℕ) → Fewest m G t n d → Fewest m G t n e → d ≡ e
    fewest_one = fewest_same l sealed t (ranks_of m G t) (right_ranks l sealed t s)

    least_of_all_one : (f g : C) → LeastOfAll m G t f → LeastOfAll m G t g → f ≡ g
    least_of_all_one f g h k = le_same (cost_order l) f g (h.none_below k.some.0 g k.some.1) (k.none_below h.some.0 f h.some.1)

    no_best : (n : ℕ) → NoCover G t n → at (best m G t) n ≡ None
    no_best n h = go (at (best m G t) n) refl
      where
        go : (o : Option (Best C)) → at (best m G t) n ≡ o → at (best m G t) n ≡ None
        go None e = e
        go (Some x) e = absurd (let k = ((right_at l sealed t s n).least x.0 x.1 x.2 e).some in h k.0 k.1)

    none_by : {A : Type 0} (f : Best C → A) (n : ℕ) → (option_map f (at (best m G t) n) ≡ None) ↔ NoCover G t n
    none_by f n = (λ e. (right_at l sealed t s n).none (mapped_none f (at (best m G t) n) e), λ h. ap (option_map f) (no_best n h))

    pub right : (n : ℕ) → Right m G t n
    right n = record {
      none = none_by (λ x. x.0) n;
      no_fewest = none_by (λ x. x.1) n;
      no_choice = none_by (λ x. x.2) n;
      least = λ c. (λ e. (let h = mapped_some (λ x. x.0) (at (best m G t) n) c e in let x = h.0 in subst (Least m G t n) h.2 ((right_at l sealed t s n).least x.0 x.1 x.2 h.1)), λ f. ap (option_map (λ x. x.0)) (best_least l sealed t s n c f).2);
      fewest = λ d. (λ e. (let h = mapped_some (λ x. x.1) (at (best m G t) n) d e in let x = h.0 in subst (Fewest m G t n) h.2 ((right_at l sealed t s n).fewest x.0 x.1 x.2 h.1)), λ f. ap (option_map (λ x. x.1)) (best_has l sealed t s n (cover_cost m G f.some.0) d f.some.2 f).1);
      chosen = λ r. (λ e. (let h = mapped_some (λ x. x.2) (at (best m G t) n) r e in let x = h.0 in subst (Chooses m G t n) h.2 (chooses l sealed t s n x.0 x.1 x.2 h.1)), λ f. ap (option_map (λ x. x.2)) (chooses_best n r f));
    }

    -- ---- the row

    row_long : length (row m G t) ≡ count G
    row_long =
        let kids = kids_right l sealed t s in
        let long = (closed_held l sealed (base_ranks l sealed t kids) (base_ranks_light l sealed t kids s) (base_covers l sealed t kids).long).long in
        length-map (best m G t) (entry m (least_of_all m (best m G t))) ∙ choices_length m G (kid_ranks m G t) (ranks_of m G t) 0 (ranks_of m G t) ∙ ap length (ranks_kid_ranks l sealed t) ∙ long

    row_none : (n : ℕ) → at (row m G t) n ≡ None → at (best m G t) n ≡ None
    row_none n e = entry_none l sealed (least_of_all m (best m G t)) (at (best m G t) n) (sym (row_at l sealed t n) ∙ e)

    entry_is : (n r : ℕ) (x : C) → at (row m G t) n ≡ Some (r, x) → EntryIs m G t n r x
    entry_is n r x e =
        let f = least_of_all m (best m G t) in
        let h = entry_some l sealed f (at (best m G t) n) r x (sym (row_at l sealed t n) ∙ e) in
        record { cost = h.0; lowest = f; chosen = chooses l sealed t s n h.0 h.1 r h.2; least = (right_at l sealed t s n).least h.0 h.1 r h.2; least_of_all = least_of_all_is l sealed t s n (h.0, h.1, r) h.2; above = h.3 }

    is_entry : (n r : ℕ) (x : C) → EntryIs m G t n r x → at (row m G t) n ≡ Some (r, x)
    is_entry n r x h =
        let c = h.chosen in
        let b = chooses_best n r c in
        let f = least_of_all m (best m G t) in
        let cost-is : c.cost ≡ h.cost = least_one n c.cost h.cost c.least h.least in
        let f-is : f ≡ h.lowest = least_of_all_one f h.lowest (least_of_all_is l sealed t s n (c.cost, c.chain_rules, r) b) h.least_of_all in
        let x-is : m.diff c.cost f ≡ x = (λ i. m.diff (cost-is i) (f-is i)) ∙ h.above in
        row_at l sealed t n ∙ ap (entry m f) b ∙ (λ i. Some (r, x-is i))

    pub row_right : RowRight m G t
    row_right = record {
      long = row_long;
      none = λ n. (λ e. (right_at l sealed t s n).none (row_none n e), λ h. row_at l sealed t n ∙ ap (entry m (least_of_all m (best m G t))) (no_best n h));
      some = λ n r x. (entry_is n r x, is_entry n r x);
    }

    -- the entry of a choice
    pub entry_of : (n r : ℕ) → Chooses m G t n r → (x : C) × (at (row m G t) n ≡ Some (r, x))
    entry_of n r h =
        let f = least_of_all m (best m G t) in
        let b = chooses_best n r h in
        (m.diff h.cost f, row_at l sealed t n ∙ ap (entry m f) b)

    -- the entry of a least cost
    pub entry_at : (n : ℕ) (c f : C) → Least m G t n c → LeastOfAll m G t f → (r : ℕ) × (at (row m G t) n ≡ Some (r, m.diff c f))
    entry_at n c f h k =
        let b = best_least l sealed t s n c h in
        (b.1, is_entry n b.1 (m.diff c f) (record { cost = c; lowest = f; chosen = chooses l sealed t s n c b.0 b.1 b.2; least = h; least_of_all = k; above = refl }))

    -- ---- the chosen cover

    -- a base rule is chosen where there are no chain rules, a chain rule where there are some
    not_both : (r n o x : ℕ) (f : FormOf) → RuleIs G r n (chain x) → RuleIs G r o f → (f ≡ chain x → ⊥) → ⊥
    not_both r n o x f i j h = h (sym j.formed ∙ ap (λ z. z.form) (some_is j.ρ i.ρ (sym j.stands ∙ i.stands)) ∙ i.formed)

    no_chains : (n r : ℕ) (f : FormOf) (h : Chooses m G t n r) → RuleIs G r n f → ((x : ℕ) → f ≡ chain x → ⊥) → h.chain_rules ≡ 0
    no_chains n r f h i k = go h.chain_rules h.choice
      where
        go : (d : ℕ) → Choice m G t n h.cost d r → d ≡ 0
        go zero c = refl
        go (suc d) c = absurd (let a = c.holds in not_both r n n a.s f a.is i (k a.s))

    base_not_chain : (t' : Tree) (n : ℕ) (c : C) (r x : ℕ) → Choice m G t' n c 0 r → RuleIs G r n (chain x) → ⊥
    base_not_chain (node0 op p) n c r x h i = not_both r n n x (base0 op) i h.holds.0 (λ e. (let z : ◌≡◌ {A = ℕ} 0 1 = cc in omega arith))
    base_not_chain (node1 op p u) n c r x h i = (let a = h.holds in not_both r n n x (base1 op a.0) i a.2 (λ e. (let z : ◌≡◌ {A = ℕ} 0 1 = cc in omega arith)))
    base_not_chain (node2 op p u v) n c r x h i = (let a = h.holds in not_both r n n x (base2 op a.0 a.1) i a.4 (λ e. (let z : ◌≡◌ {A = ℕ} 0 1 = cc in omega arith)))

    some_chains : (n r x : ℕ) (h : Chooses m G t n r) → RuleIs G r n (chain x) → (d : ℕ) × (h.chain_rules ≡ suc d) × Fewest m G t x d
    some_chains n r x h i = go h.chain_rules refl h.choice
      where
        go : (d : ℕ) → h.chain_rules ≡ d → Choice m G t n h.cost d r → (d' : ℕ) × (h.chain_rules ≡ suc d') × Fewest m G t x d'
        go zero e c = absurd (base_not_chain t n h.cost r x c i)
        go (suc d) e c =
            let a = c.holds in
            let same = ap (λ z. z.form) (some_is a.is.ρ i.ρ (sym a.is.stands ∙ i.stands)) in
            let forms : chain a.s ≡ chain x = sym a.is.formed ∙ same ∙ i.formed in
            let xs : a.s ≡ x = cc in
            (d, e, subst (λ z. Fewest m G t z d) xs a.fewest)

    -- a run that follows the choices is the one that is computed
    record OneRun (rs : List ℕ) (n r : ℕ) : Type 0 where
      pub cost : C
      pub d : ℕ
      pub q : ℕ
      pub starts : at (best m G t) n ≡ Some (cost, d, q)
      pub run_is : rs ≡ follow G (best m G t) d n
      pub base_is : r ≡ best_rule (at (best m G t) (run_end G rs n))

    one_run : (rs : List ℕ) (n e r : ℕ) (f : FormOf) → Linked G rs n e → RuleIs G r e f → ((x : ℕ) → f ≡ chain x → ⊥) → FollowsRun m G t rs n r → OneRun rs n r
    one_run [] n e r f k i b h =
        let z = no_chains n r f h (record { ρ = i.ρ; stands = i.stands; from = i.from ∙ sym k; formed = i.formed }) b in
        let a = chooses_best n r h in
        record { cost = h.cost; d = 0; q = r; starts = a ∙ (λ w. Some (h.cost, z w, r)); run_is = refl; base_is = sym (ap best_rule a) }
    one_run (q ∷ qs) n e r f k i b h =
        let o = one_run qs (source G q) e r f k.1 i b h.1 in
        let a = chooses_best n q h.0 in
        let c = some_chains n q (source G q) h.0 k.0 in
        let same : o.d ≡ c.0 = fewest_one (source G q) o.d c.0 ((right_at l sealed t s (source G q)).fewest o.cost o.d o.q o.starts) c.2 in
        record {
          cost = h.0.cost;
          d = suc c.0;
          q = q;
          starts = a ∙ (λ w. Some (h.0.cost, c.1 w, q));
          run_is = ap (λ z. q ∷ z) (o.run_is ∙ ap (λ z. follow G (best m G t) z (source G q)) same) ∙ ap (λ z. z ∷ follow G (best m G t) c.0 (source G z)) (sym (ap best_rule a));
          base_is = o.base_is;
        }

    pub record SameRun (rs : List ℕ) (n r : ℕ) : Type 0 where
      pub some : (x : Best C) × (at (best m G t) n ≡ Some x)
      pub run_is : rs ≡ follow G (best m G t) (best_chains (at (best m G t) n)) n
      pub base_is : r ≡ best_rule (at (best m G t) (run_end G (follow G (best m G t) (best_chains (at (best m G t) n)) n) n))

    pub same_run : (rs : List ℕ) (n e r : ℕ) (f : FormOf) → Linked G rs n e → RuleIs G r e f → ((x : ℕ) → f ≡ chain x → ⊥) → FollowsRun m G t rs n r → SameRun rs n r
    same_run rs n e r f k i b h =
        let o = one_run rs n e r f k i b h in
        let runs : rs ≡ follow G (best m G t) (best_chains (at (best m G t) n)) n = o.run_is ∙ ap (λ z. follow G (best m G t) z n) (sym (ap best_chains o.starts)) in
        record { some = ((o.cost, o.d, o.q), o.starts); run_is = runs; base_is = o.base_is ∙ ap (λ z. best_rule (at (best m G t) (run_end G z n))) runs }

  record IsChosen (t : Tree) (n : ℕ) (k : Cover) : Type 0 where
    pub some : (x : Best C) × (at (best m G t) n ≡ Some x)
    pub is : k ≡ following m G t n

  is_chosen : (t : Tree) → size t ≤ 2048 → (k : Cover) (n : ℕ) → Covers G k t n → Follows m G k t n → IsChosen t n k
  is_chosen (node0 op p) s (cover0 rs r) n h f =
      let w = same_run (node0 op p) s rs n h.0 r (base0 op) h.1.linked h.2 (λ x e. (let z : ◌≡◌ {A = ℕ} 0 1 = cc in omega arith)) f in
      record { some = w.some; is = λ i. cover0 (w.run_is i) (w.base_is i) }
  is_chosen (node0 op p) s (cover1 rs r k) n h f = absurd h
  is_chosen (node0 op p) s (cover2 rs r k j) n h f = absurd h
  is_chosen (node1 op p t) s (cover0 rs r) n h f = absurd h
  is_chosen (node1 op p t) s (cover1 rs r k) n h f =
      let w = same_run (node1 op p t) s rs n h.0 r (base1 op h.1) h.2.linked h.3 (λ x e. (let z : ◌≡◌ {A = ℕ} 0 1 = cc in omega arith)) f.0 in
      let kid_is = left_is l sealed r h.0 op h.1 h.3 in
      let kid = is_chosen t (omega arith) k (left_kid G r) (subst (Covers G k t) (sym kid_is) h.4) f.1 in
      let kid-too : k ≡ following m G t (left_kid G r) = kid.is in
      record { some = w.some; is = ap (cover1 rs r) kid-too ∙ (λ i. cover1 (w.run_is i) (w.base_is i) (following m G t (left_kid G (w.base_is i)))) }
  is_chosen (node1 op p t) s (cover2 rs r k j) n h f = absurd h
  is_chosen (node2 op p t u) s (cover0 rs r) n h f = absurd h
  is_chosen (node2 op p t u) s (cover1 rs r k) n h f = absurd h
  is_chosen (node2 op p t u) s (cover2 rs r k j) n h f =
      let w = same_run (node2 op p t u) s rs n h.0 r (base2 op h.1 h.2) h.3.linked h.4 (λ x e. (let z : ◌≡◌ {A = ℕ} 0 1 = cc in omega arith)) f.0 in
      let left-same = left_of_two l sealed r h.0 op h.1 h.2 h.4 in
      let right-same = right_of_two l sealed r h.0 op h.1 h.2 h.4 in
      let kid = is_chosen t (omega arith) k (left_kid G r) (subst (Covers G k t) (sym left-same) h.5) f.1 in
      let cub = is_chosen u (omega arith) j (right_kid G r) (subst (Covers G j u) (sym right-same) h.6) f.2 in
      record { some = w.some; is = (λ i. cover2 rs r (kid.is i) (cub.is i)) ∙ (λ i. cover2 (w.run_is i) (w.base_is i) (following m G t (left_kid G (w.base_is i))) (following m G u (right_kid G (w.base_is i)))) }

  pub chosen_right : (t : Tree) → size t ≤ 2048 → (n : ℕ) → ChosenRight m G t n
  chosen_right t s n = record {
    none = (λ e. (right_at l sealed t s n).none (mapped_none (λ _. following m G t n) (at (best m G t) n) e), λ h. ap (option_map (λ _. following m G t n)) (no_best t s n h));
    is = λ k. (λ e. (let g = (chosen_good l sealed t s n k e).2 in (g.covers, g.follows)), λ h. (let c = is_chosen t s k n h.0 h.1 in ap (option_map (λ _. following m G t n)) c.some.1 ∙ ap {B = Option Cover} Some (sym c.is)));
    least = λ k e. (let h = chosen_good l sealed t s n k e in let x = h.0 in subst (Least m G t n) (sym h.2.costs) ((right_at l sealed t s n).least x.0 x.1 x.2 h.1));
    fewest = λ k e. (let h = chosen_good l sealed t s n k e in let x = h.0 in subst (Fewest m G t n) (sym h.2.chains) ((right_at l sealed t s n).fewest x.0 x.1 x.2 h.1));
  }

  -- ---- trees with equal rows

  pub least_light : (t : Tree) → size t ≤ 2048 → (n : ℕ) (c : C) → Least m G t n c → m.weight c ≤ 65536000
  least_light t s n c h =
      let k = h.some in
      let w : m.weight c ≤ 32000 * size t = subst (λ z. m.weight z ≤ 32000 * size t) k.2 (cover_weight l sealed t k.0 n s k.1) in
      omega arith

  covers_too : (t u : Tree) → size t ≤ 2048 → size u ≤ 2048 → row m G t ≡ row m G u → (n : ℕ) (k : Cover) → Covers G k t n → (j : Cover) × Covers G j u n
  covers_too t u s q e n k h =
      let x = some_or_none (at (row m G u) n) (λ o. ((row_right t s).none n).0 (ap (λ z. at z n) e ∙ o) k h) in
      let y = (((row_right u q).some n x.0.0 x.0.1).0 x.1).least.some in
      (y.0, y.1)

  chosen_too : (t u : Tree) → size t ≤ 2048 → size u ≤ 2048 → row m G t ≡ row m G u → (n r : ℕ) → Chooses m G t n r → Chooses m G u n r
  chosen_too t u s q e n r h = (let x = entry_of t s n r h in (((row_right u q).some n r x.0).0 (sym (ap (λ z. at z n) e) ∙ x.1)).chosen)

  -- c − f = d − g makes c − d = f − g
  across : (c d f g : C) → m.weight c ≤ 65536000 → m.weight d ≤ 65536000 → m.weight f ≤ 65536000 → m.weight g ≤ 65536000 → m.diff c f ≡ m.diff d g → m.diff c d ≡ m.diff f g
  across c d f g wc wd wf wg e =
      let x = m.diff c f in
      let wx = l.diff_weight c f (omega arith) in
      let wfg = l.diff_weight f g (omega arith) in
      let d-is : d ≡ m.sum x g = sym (l.diff_sum d g (omega arith)) ∙ ap (λ z. m.sum z g) (sym e) in
      let c-is : m.sum (m.diff f g) d ≡ c =
      ap (m.sum (m.diff f g)) (d-is ∙ l.sum_swap x g (omega arith)) ∙ sym (l.sum_group (m.diff f g) g x (omega arith)) ∙ ap (λ z. m.sum z x) (l.diff_sum f g (omega arith)) ∙ l.sum_swap f x (omega arith) ∙ l.diff_sum c f (omega arith) in
      sym (diff_is l (m.diff f g) c d (omega arith) (omega arith) (omega arith) c-is)

  pub alike : (t u : Tree) → size t ≤ 2048 → size u ≤ 2048 → row m G t ≡ row m G u → (n : ℕ) → Alike m G t u n
  alike t u s q e n = record {
    covers = (λ h. covers_too t u s q e n h.0 h.1, λ h. covers_too u t q s (sym e) n h.0 h.1);
    chosen = λ r. (chosen_too t u s q e n r, chosen_too u t q s (sym e) n r);
    differ = λ c d f g hc hd hf hg. (let a = entry_at t s n c f hc hf in let b = entry_at u q n d g hd hg in let same = some_is (a.0, m.diff c f) (b.0, m.diff d g) (sym a.1 ∙ ap (λ z. at z n) e ∙ b.1) in across c d f g (least_light t s n c hc) (least_light u q n d hd) (least_light t s hf.some.0 f hf.some.1) (least_light u q hg.some.0 g hg.some.1) (ap (λ z. z.1) same));
  }
