-- The choice of the rules, place by place.
use Rattle.std.proofs.Common.{◌≡◌, ℕ, zero, suc, ◌+◌, ◌≤◌, List, [], ◌∷◌, map, length, set, Some, None, Option, sym, refl, ap, ◌∙◌, subst, arith}
use Rattle.cost.specs.Model.{Model}
use Rattle.grammar.specs.Lists.{RuleOf, Lists}
use Rattle.covers.specs.Trees.{Applied}
use Rattle.covers.specs.Ranks.{Ranks, Best, at, choose, choices}
use Rattle.covers.specs.Rows.{row_of, cost_entry}
use Rattle.row.specs.Ranked.{rank_part, Few, RanksAre, ChosenAt, Chosen, BestAre, RowIs}
use Rattle.row.proofs.Writing.{upto, upto_at, upto_set}

module _ {C : Type 0} (m : Model C) (ρs : List (RuleOf C)) (s : Applied (Ranks C)) where
  -- what stands at n with its rule chosen, over the ranks rs
  abbrev pick : Lists C → Ranks C → ℕ → Option (Best C) → Option (Best C)
  pick G rs n o = choose m G s rs n (rank_part o)

  -- the rules of the first i places are chosen
  abbrev pub ChosenTo : List (Option (Best C)) → ℕ → List (Option (Best C)) → Type 0
  ChosenTo xs i ys = Few (map rank_part xs) → (G : Lists C) → G.rules ≡ ρs → ys ≡ upto (pick G (map rank_part xs)) 0 i xs

  pick_rank : (G : Lists C) (rs : Ranks C) (n : ℕ) (o : Option (Best C)) → rank_part (pick G rs n o) ≡ rank_part o
  pick_rank G rs n None = refl
  pick_rank G rs n (Some y) = refl

  upto_ranks : (G : Lists C) (rs : Ranks C) (n i : ℕ) (xs : List (Option (Best C))) → map rank_part (upto (pick G rs) n i xs) ≡ map rank_part xs
  upto_ranks G rs n zero xs = refl
  upto_ranks G rs n (suc i) [] = refl
  upto_ranks G rs n (suc i) (x ∷ xs) = λ j. pick_rank G rs n x j ∷ upto_ranks G rs (suc n) i xs j

  upto_choices : (G : Lists C) (rs : Ranks C) (n i : ℕ) (xs : List (Option (Best C))) → length xs ≤ i → upto (pick G rs) n i xs ≡ choices m G s rs n (map rank_part xs)
  upto_choices G rs n zero [] h = refl
  upto_choices G rs n zero (x ∷ xs) h = absurd (omega arith)
  upto_choices G rs n (suc i) [] h = refl
  upto_choices G rs n (suc i) (x ∷ xs) h = ap (λ z. pick G rs n x ∷ z) (upto_choices G rs (suc n) i xs (omega arith))

  pub choose_more : (xs ys : List (Option (Best C))) (i : ℕ) (o : Option (Best C)) → ChosenTo xs i ys → ChosenAt m ρs s ys i o → ChosenTo xs (i + 1) (set ys i o)
  choose_more xs ys i o t h few G rules =
      let rs = map rank_part xs in
      let e : ys ≡ upto (pick G rs) 0 i xs = t few G rules in
      let same : map rank_part ys ≡ rs = ap (map rank_part) e ∙ upto_ranks G rs 0 i xs in
      let here : at ys i ≡ at xs i = ap (λ z. at z i) e ∙ upto_at (pick G rs) 0 i xs None in
      let new : o ≡ pick G rs i (at xs i) = h (subst Few (sym same) few) G rules ∙ (λ j. choose m G s (same j) i (rank_part (here j))) in
      let number : i ≡ 0 + i = omega arith in
      let after : suc i ≡ i + 1 = omega arith in
      (λ j. set (e j) i (new j)) ∙ ap (λ k. set (upto (pick G rs) 0 i xs) i (pick G rs k (at xs i))) number ∙ upto_set (pick G rs) 0 i xs None ∙ ap (λ k. upto (pick G rs) 0 k xs) after

  pub choose_all : (xs ys : List (Option (Best C))) (i : ℕ) → length xs ≤ i → ChosenTo xs i ys → Chosen m ρs s xs ys
  choose_all xs ys i h t few G rules = t few G rules ∙ upto_choices G (map rank_part xs) 0 i xs h

  pub best_done : (n : ℕ) (xs ys : List (Option (Best C))) → RanksAre m ρs n s xs → Chosen m ρs s xs ys → BestAre m ρs n s ys
  best_done n xs ys a c G declared rules counts =
      let ranks = a G declared rules counts in
      c ranks.1 G rules ∙ (λ i. choices m G s (ranks.0 i) 0 (ranks.0 i))

  pub row_done : (n : ℕ) (xs ys : List (Option (Best C))) → BestAre m ρs n s xs → map cost_entry ys ≡ row_of m xs → RowIs m ρs n s ys
  row_done n xs ys b l G declared rules counts = l ∙ ap (row_of m) (b G declared rules counts)
