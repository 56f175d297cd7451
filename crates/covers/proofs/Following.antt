-- The cover that follows the choices is a cover of least cost.
use Rattle.std.proofs.Common.{◌≡◌, ℕ, zero, suc, ◌≤◌, List, [], ◌∷◌, length, Some, None, Option, sym, refl, ap, ◌∙◌, subst, arith}
use Rattle.std.specs.Option.{option_map}
use Rattle.cost.specs.Model.{Model, Laws}
use Rattle.grammar.specs.Lists.{chain, base1, base2, Lists, Sealed}
use Rattle.covers.specs.Trees.{Tree, node0, node1, node2, size}
use Rattle.covers.specs.Covers.{form_source, rule_source, source, rule_cost, RuleIs, Apart, on_run, Run, Cover, cover0, cover1, cover2, Covers, run_cost, cover_cost, chain_count, Least, Fewest, Chooses}
use Rattle.covers.specs.Ranks.{Best, at, best, kid_ranks, ranks_of, offers, first_from, choose}
use Rattle.covers.specs.Steps.{form_kids, rule_kids, left_kid, right_kid, best_chains, best_rule, follow, run_end, chosen_run, following, chosen, FollowsRun, Follows}
use Rattle.covers.proofs.Relaxing.{some_is, none_some}
use Rattle.covers.proofs.TreeRanks.{right_ranks}
use Rattle.covers.proofs.Chosen.{best_at, row_has, row_has_both, fewest_of, right_at}

-- each of the nonterminals has a cover, and at most d chain rules
abbrev Low : {C : Type 0} → List (Option (Best C)) → ℕ → List ℕ → Type 0
Low os d [] = Unit {0}
Low {C} os d (x ∷ xs) = ((y : Best C) × (at os x ≡ Some y) × (y.1 ≤ d)) × Low os d xs

low_more : {C : Type 0} (os : List (Option (Best C))) (d : ℕ) (xs : List ℕ) → Low os d xs → Low os (suc d) xs
low_more os d [] h = tt
low_more os d (x ∷ xs) h = ((h.0.0, h.0.1, (let k = h.0.2 in omega arith)), low_more os d xs h.1)

low_apart : {C : Type 0} (os : List (Option (Best C))) (d n : ℕ) (c : C) (r : ℕ) → at os n ≡ Some (c, suc d, r) → (xs : List ℕ) → Low os d xs → Apart n xs
low_apart os d n c r e [] h = tt
low_apart os d n c r e (x ∷ xs) h = (differs, low_apart os d n c r e xs h.1)
  where
    differs : n ≡ x → ⊥
    differs s =
        let same = some_is (c, suc d, r) h.0.0 (sym e ∙ ap (at os) s ∙ h.0.1) in
        let k : suc d ≡ h.0.0.1 = ap (λ z. z.1) same in
        let q = h.0.2 in
        omega arith

pub some_or_none : {A : Type 0} (o : Option A) → (o ≡ None → ⊥) → (x : A) × (o ≡ Some x)
some_or_none None h = absurd (h refl)
some_or_none (Some x) h = (x, refl)

module _ {C : Type 0} {m : Model C} (l : Laws m) {G : Lists C} (sealed : Sealed m G) where
  -- the least cost and the fewest chain rules are those of `best`
  pub best_has : (t : Tree) → size t ≤ 2048 → (n : ℕ) (x : C) (d : ℕ) → Least m G t n x → Fewest m G t n d → (r : ℕ) × (at (best m G t) n ≡ Some (x, d, r))
  best_has t s n x d f g = (first_from (offers m (kid_ranks m G t) (ranks_of m G t) n (x, d)) 1 G.rules, best_at l sealed t n ∙ ap (choose m G (kid_ranks m G t) (ranks_of m G t) n) (row_has_both l sealed t (ranks_of m G t) (right_ranks l sealed t s) n x d f g))

  pub best_least : (t : Tree) → size t ≤ 2048 → (n : ℕ) (x : C) → Least m G t n x → (d r : ℕ) × (at (best m G t) n ≡ Some (x, d, r))
  best_least t s n x f =
      let h = row_has l sealed t (ranks_of m G t) (right_ranks l sealed t s) n x f in
      let b = best_has t s n x h.0 f (fewest_of l sealed t (ranks_of m G t) (right_ranks l sealed t s) n (x, h.0) h.1) in
      (h.0, b.0, b.1)

  pub chooses : (t : Tree) → size t ≤ 2048 → (n : ℕ) (c : C) (d r : ℕ) → at (best m G t) n ≡ Some (c, d, r) → Chooses m G t n r
  chooses t s n c d r e = (let h = right_at l sealed t s n in record { cost = c; chain_rules = d; least = h.least c d r e; fewest = h.fewest c d r e; choice = h.choice c d r e })

  -- what the choices lead through
  record Led (t : Tree) (n : ℕ) (c : C) (d : ℕ) (rs : List ℕ) : Type 0 where
    pub end_cost : C
    pub base : ℕ
    pub run : Run G rs n (run_end G rs n)
    pub ends : at (best m G t) (run_end G rs n) ≡ Some (end_cost, 0, base)
    pub is : run_cost m G rs end_cost ≡ c
    pub long : length rs ≡ d
    pub follows : FollowsRun m G t rs n base
    pub low : Low (best m G t) d (on_run G rs n)

  led : (t : Tree) → size t ≤ 2048 → (d n : ℕ) (c : C) (r : ℕ) → at (best m G t) n ≡ Some (c, d, r) → Led t n c d (follow G (best m G t) d n)
  led t s zero n c r e = record { end_cost = c; base = r; run = record { linked = refl; simple = (tt, tt) }; ends = e; is = refl; long = refl; follows = chooses t s n c 0 r e; low = (((c, 0, r), e, omega arith), tt) }
  led t s (suc d) n c r e =
      let os = best m G t in
      let a = ((right_at l sealed t s n).choice c (suc d) r e).holds in
      let i = a.is in
      let source_is : source G r ≡ a.s = ap rule_source i.stands ∙ ap form_source i.formed in
      let b = best_has t s a.s a.x d a.least a.fewest in
      let w : Led t (source G r) a.x d (follow G os d (source G r)) = subst (λ z. Led t z a.x d (follow G os d z)) (sym source_is) (led t s d a.s a.x b.0 b.1) in
      let rs = follow G os d (source G r) in
      let here : Led t n c (suc d) (r ∷ rs) = record {
        end_cost = w.end_cost;
        base = w.base;
        run = record { linked = (record { ρ = i.ρ; stands = i.stands; from = i.from; formed = i.formed ∙ ap chain (sym source_is) }, w.run.linked); simple = (low_apart os d n c r e (on_run G rs (source G r)) w.low, w.run.simple) };
        ends = w.ends;
        is = ap (λ z. m.sum z (rule_cost m G r)) w.is ∙ a.comes_to;
        long = ap suc w.long;
        follows = (chooses t s n c (suc d) r e, w.follows);
        low = (((c, suc d, r), e, omega arith), low_more os d (on_run G rs (source G r)) w.low);
      } in
      subst (λ z. Led t n c (suc d) (z ∷ follow G os d (source G z))) (sym (ap best_rule e)) here

  led_chosen : (t : Tree) → size t ≤ 2048 → (n : ℕ) (c : C) (d r : ℕ) → at (best m G t) n ≡ Some (c, d, r) → Led t n c d (chosen_run m G t n)
  led_chosen t s n c d r e = subst (λ z. Led t n c d (follow G (best m G t) z n)) (sym (ap best_chains e)) (led t s d n c r e)

  -- what is shown of the chosen cover
  pub record Good (t : Tree) (n : ℕ) (c : C) (d : ℕ) (k : Cover) : Type 0 where
    pub covers : Covers G k t n
    pub costs : cover_cost m G k ≡ c
    pub chains : chain_count k ≡ d
    pub follows : Follows m G k t n

  pub left_is : (r n op a : ℕ) → RuleIs G r n (base1 op a) → left_kid G r ≡ a
  left_is r n op a i = ap (λ z. (rule_kids z).0) i.stands ∙ ap (λ z. (form_kids z).0) i.formed

  pub left_of_two : (r n op a b : ℕ) → RuleIs G r n (base2 op a b) → left_kid G r ≡ a
  left_of_two r n op a b i = ap (λ z. (rule_kids z).0) i.stands ∙ ap (λ z. (form_kids z).0) i.formed

  pub right_of_two : (r n op a b : ℕ) → RuleIs G r n (base2 op a b) → right_kid G r ≡ b
  right_of_two r n op a b i = ap (λ z. (rule_kids z).1) i.stands ∙ ap (λ z. (form_kids z).1) i.formed

  pub good : (t : Tree) → size t ≤ 2048 → (n : ℕ) (c : C) (d r : ℕ) → at (best m G t) n ≡ Some (c, d, r) → Good t n c d (following m G t n)
  good (node0 op p) s n c d r e =
      let t = node0 op p in
      let w = led_chosen t s n c d r e in
      let rs = chosen_run m G t n in
      let x = w.base in
      let end = run_end G rs n in
      let a = ((right_at l sealed t s end).choice w.end_cost 0 x w.ends).holds in
      let here : Good t n c d (cover0 rs x) = record { covers = (end, w.run, a.0); costs = ap (run_cost m G rs) a.1 ∙ w.is; chains = w.long; follows = w.follows } in
      subst (λ z. Good t n c d (cover0 rs z)) (sym (ap best_rule w.ends)) here
  good (node1 op p u) s n c d r e =
      let t = node1 op p u in
      let w = led_chosen t s n c d r e in
      let rs = chosen_run m G t n in
      let x = w.base in
      let end = run_end G rs n in
      let a = ((right_at l sealed t s end).choice w.end_cost 0 x w.ends).holds in
      let i = a.2 in
      let kid_is = left_is x end op a.0 i in
      let b = best_least u (omega arith) a.0 a.1 a.3 in
      let k = left_kid G x in
      let g : Good u k a.1 b.0 (following m G u k) = subst (λ z. Good u z a.1 b.0 (following m G u z)) (sym kid_is) (good u (omega arith) a.0 a.1 b.0 b.1 b.2) in
      let here : Good t n c d (cover1 rs x (following m G u k)) = record { covers = (end, k, w.run, record { ρ = i.ρ; stands = i.stands; from = i.from; formed = i.formed ∙ ap (base1 op) (sym kid_is) }, g.covers); costs = ap (λ z. run_cost m G rs (m.sum (rule_cost m G x) z)) g.costs ∙ ap (run_cost m G rs) a.4 ∙ w.is; chains = w.long; follows = (w.follows, g.follows) } in
      subst (λ z. Good t n c d (cover1 rs z (following m G u (left_kid G z)))) (sym (ap best_rule w.ends)) here
  good (node2 op p u v) s n c d r e =
      let t = node2 op p u v in
      let w = led_chosen t s n c d r e in
      let rs = chosen_run m G t n in
      let x = w.base in
      let end = run_end G rs n in
      let a = ((right_at l sealed t s end).choice w.end_cost 0 x w.ends).holds in
      let i = a.4 in
      let left-same = left_of_two x end op a.0 a.1 i in
      let right-same = right_of_two x end op a.0 a.1 i in
      let b = best_least u (omega arith) a.0 a.2 a.5 in
      let y = best_least v (omega arith) a.1 a.3 a.6 in
      let k = left_kid G x in
      let j = right_kid G x in
      let g : Good u k a.2 b.0 (following m G u k) = subst (λ z. Good u z a.2 b.0 (following m G u z)) (sym left-same) (good u (omega arith) a.0 a.2 b.0 b.1 b.2) in
      let h : Good v j a.3 y.0 (following m G v j) = subst (λ z. Good v z a.3 y.0 (following m G v z)) (sym right-same) (good v (omega arith) a.1 a.3 y.0 y.1 y.2) in
      let here : Good t n c d (cover2 rs x (following m G u k) (following m G v j)) = record { covers = (end, k, j, w.run, record { ρ = i.ρ; stands = i.stands; from = i.from; formed = i.formed ∙ (λ q. base2 op (sym left-same q) (sym right-same q)) }, g.covers, h.covers); costs = (λ q. run_cost m G rs (m.sum (m.sum (rule_cost m G x) (g.costs q)) (h.costs q))) ∙ ap (run_cost m G rs) a.7 ∙ w.is; chains = w.long; follows = (w.follows, g.follows, h.follows) } in
      subst (λ z. Good t n c d (cover2 rs z (following m G u (left_kid G z)) (following m G v (right_kid G z)))) (sym (ap best_rule w.ends)) here

  -- where there is a cover, there is the chosen one, and the other way round
  pub has_best : (t : Tree) → size t ≤ 2048 → (n : ℕ) (k : Cover) → Covers G k t n → (x : Best C) × (at (best m G t) n ≡ Some x)
  has_best t s n k h = some_or_none (at (best m G t) n) (λ e. (right_at l sealed t s n).none e k h)

  pub chosen_is : (t : Tree) (n : ℕ) (o : Option (Best C)) (k : Cover) → option_map (λ _. following m G t n) o ≡ Some k → (x : Best C) × (o ≡ Some x) × (following m G t n ≡ k)
  chosen_is t n None k e = absurd (none_some k e)
  chosen_is t n (Some x) k e = (x, refl, some_is (following m G t n) k e)

  pub chosen_good : (t : Tree) → size t ≤ 2048 → (n : ℕ) (k : Cover) → chosen m G t n ≡ Some k → (x : Best C) × (at (best m G t) n ≡ Some x) × Good t n x.0 x.1 k
  chosen_good t s n k e =
      let h = chosen_is t n (at (best m G t) n) k e in
      let x = h.0 in
      (x, h.1, subst (Good t n x.0 x.1) h.2 (good t s n x.0 x.1 x.2 h.1))
