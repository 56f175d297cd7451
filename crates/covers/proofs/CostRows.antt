-- A row with the least costs themselves, from the operator and such rows of the kids.
use Rattle.std.proofs.Common.{◌≡◌, ℕ, suc, pred, false, cond, eqb, List, [], ◌∷◌, map, replicate, Some, None, Option, sym, refl, ap, ◌∙◌}
use Rattle.cost.specs.Model.{Model}
use Rattle.grammar.specs.Lists.{FormOf, chain, base0, base1, base2, RuleOf, Lists}
use Rattle.covers.specs.Trees.{count, Applied, unary, binary, Tree, node0, node1, node2}
use Rattle.covers.specs.Ranks.{Rank, Ranks, at, with1, with2, base_offer, bases, relax, rounds, ranked, ranks_of, kid_ranks, is_rank, offer, offers, choose, choices, best_of}
use Rattle.covers.specs.Rows.{as_rank, cost_entry, cost_row, kid_cost_rows, cost_row_from}
use Rattle.covers.proofs.Shifts.{at_map}
use Rattle.covers.proofs.RowSteps.{first_same}

-- the rank with no chain rule
abbrev flat : {C : Type 0} → Option (Rank C) → Option (Rank C)
flat None = None
flat (Some p) = Some (p.0, 0)

flat_choose : {C : Type 0} (m : Model C) (G : Lists C) (s : Applied (Ranks C)) (xs : Ranks C) (n : ℕ) (o : Option (Rank C)) → as_rank (cost_entry (choose m G s xs n o)) ≡ flat o
flat_choose m G s xs n None = refl
flat_choose m G s xs n (Some p) = refl

flat_choices : {C : Type 0} (m : Model C) (G : Lists C) (s : Applied (Ranks C)) (xs : Ranks C) (n : ℕ) (os : Ranks C) → map as_rank (map cost_entry (choices m G s xs n os)) ≡ map flat os
flat_choices m G s xs n [] = refl
flat_choices m G s xs n (o ∷ os) = λ i. flat_choose m G s xs n o i ∷ flat_choices m G s xs (suc n) os i

module _ {C : Type 0} (m : Model C) where
  with1_flat : (c : C) (o : Option (Rank C)) → with1 m c (flat o) ≡ with1 m c o
  with1_flat c None = refl
  with1_flat c (Some p) = refl

  with2_flat : (c : C) (o u : Option (Rank C)) → with2 m c (flat o) (flat u) ≡ with2 m c o u
  with2_flat c None u = refl
  with2_flat c (Some p) None = refl
  with2_flat c (Some p) (Some q) = refl

  base1_flat : (op : ℕ) (k : Ranks C) (c : C) (f : FormOf) → base_offer m (unary op (map flat k)) c f ≡ base_offer m (unary op k) c f
  base1_flat op k c (chain s) = refl
  base1_flat op k c (base0 o) = refl
  base1_flat op k c (base1 o a) = ap (λ z. cond (eqb o op) z None) (ap (with1 m c) (at_map flat refl k a) ∙ with1_flat c (at k a))
  base1_flat op k c (base2 o a b) = refl

  base2_flat : (op : ℕ) (k j : Ranks C) (c : C) (f : FormOf) → base_offer m (binary op (map flat k) (map flat j)) c f ≡ base_offer m (binary op k j) c f
  base2_flat op k j c (chain s) = refl
  base2_flat op k j c (base0 o) = refl
  base2_flat op k j c (base1 o a) = refl
  base2_flat op k j c (base2 o a b) = ap (λ z. cond (eqb o op) z None) ((λ i. with2 m c (at_map flat refl k a i) (at_map flat refl j b i)) ∙ with2_flat c (at k a) (at j b))

  -- ---- where all base rules give the same, all else is the same

  module _ (G : Lists C) (s t : Applied (Ranks C)) (same : (c : C) (f : FormOf) → base_offer m s c f ≡ base_offer m t c f) where
    bases_same : (ρs : List (RuleOf C)) (xs : Ranks C) → bases m s xs ρs ≡ bases m t xs ρs
    bases_same [] xs = refl
    bases_same (ρ ∷ ρs) xs = ap (λ z. bases m s (relax m xs ρ.left z) ρs) (same ρ.cost ρ.form) ∙ bases_same ρs (relax m xs ρ.left (base_offer m t ρ.cost ρ.form))

    ranked_same : ranked m G s ≡ ranked m G t
    ranked_same = ap (λ z. rounds m (pred (count G)) z G.rules) (bases_same G.rules (replicate (count G) None))

    offer_same : (xs : Ranks C) (c : C) (f : FormOf) → offer m s xs c f ≡ offer m t xs c f
    offer_same xs c (chain x) = refl
    offer_same xs c (base0 o) = same c (base0 o)
    offer_same xs c (base1 o a) = same c (base1 o a)
    offer_same xs c (base2 o a b) = same c (base2 o a b)

    choose_same : (xs : Ranks C) (n : ℕ) (o : Option (Rank C)) → choose m G s xs n o ≡ choose m G t xs n o
    choose_same xs n None = refl
    choose_same xs n (Some p) = λ i. Some (p.0, p.1, first_same (offers m s xs n p) (offers m t xs n p) G.rules (λ j ρ e. ap (λ z. cond (eqb ρ.left n) (is_rank m p z) false) (offer_same xs ρ.cost ρ.form)) 1 i)

    choices_same : (xs : Ranks C) (n : ℕ) (os : Ranks C) → choices m G s xs n os ≡ choices m G t xs n os
    choices_same xs n [] = refl
    choices_same xs n (o ∷ os) = λ i. choose_same xs n o i ∷ choices_same xs (suc n) os i

    best_same : best_of m G s ≡ best_of m G t
    best_same = ap (λ z. choices m G s z 0 z) ranked_same ∙ choices_same (ranked m G t) 0 (ranked m G t)

  pub cost_rows : (G : Lists C) (t : Tree) → cost_row m G t ≡ cost_row_from m G (kid_cost_rows m G t)
  cost_rows G (node0 op p) = refl
  cost_rows G (node1 op p t) =
      let k = ranks_of m G t in
      let flats : map as_rank (cost_row m G t) ≡ map flat k = flat_choices m G (kid_ranks m G t) k 0 k in
      sym (ap (λ z. map cost_entry (best_of m G (unary op z))) flats ∙ ap (map cost_entry) (best_same G (unary op (map flat k)) (unary op k) (base1_flat op k)))
  cost_rows G (node2 op p t u) =
      let k = ranks_of m G t in
      let j = ranks_of m G u in
      let left : map as_rank (cost_row m G t) ≡ map flat k = flat_choices m G (kid_ranks m G t) k 0 k in
      let right : map as_rank (cost_row m G u) ≡ map flat j = flat_choices m G (kid_ranks m G u) j 0 j in
      sym ((λ i. map cost_entry (best_of m G (binary op (left i) (right i)))) ∙ ap (map cost_entry) (best_same G (binary op (map flat k) (map flat j)) (binary op k j) (base2_flat op k j)))
