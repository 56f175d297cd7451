-- What the work places hold in the end.
use Rattle.std.specs.Prelude.{◌≡◌, ℕ, ◌≤◌, List, map, Some, Option}
use Rattle.std.specs.Option.{option_map}
use Rattle.cost.specs.Model.{Model}
use Rattle.grammar.specs.Lists.{RuleOf, Lists, Declared}
use Rattle.covers.specs.Trees.{count, Applied}
use Rattle.covers.specs.Ranks.{Rank, Ranks, Best, at, ranked, choose, choices, best_of}
use Rattle.covers.specs.Rows.{row_of, cost_entry}
use Rattle.row.specs.Views.{kept_of}
use Rattle.row.specs.declared.work.Work.{Work}

-- the rank alone, without the rule
abbrev pub rank_part : {C : Type 0} → Option (Best C) → Option (Rank C)
rank_part o = option_map (λ y. (y.0, y.1)) o

-- the ranks in the work places
abbrev pub ranks_in : {C : Type 0} → List (Option (Work C)) → Ranks C
ranks_in ws = map rank_part (map kept_of ws)

-- no rank has more than a million chain rules
abbrev pub Few : {C : Type 0} → Ranks C → Type 0
Few {C} rs = (n : ℕ) (p : Rank C) → at rs n ≡ Some p → p.1 ≤ 1000000

-- over n nonterminals and the rules ρs, the ranks are those of the operator with its kids' ranks, with few chain rules
abbrev pub RanksAre : {C : Type 0} → Model C → List (RuleOf C) → ℕ → Applied (Ranks C) → List (Option (Best C)) → Type 0
RanksAre {C} m ρs n s xs = (G : Lists C) → Declared G → G.rules ≡ ρs → count G ≡ n → (map rank_part xs ≡ ranked m G s) × Few (map rank_part xs)

-- o is what stands at n of xs with its rule chosen, where xs has few chain rules
abbrev pub ChosenAt : {C : Type 0} → Model C → List (RuleOf C) → Applied (Ranks C) → List (Option (Best C)) → ℕ → Option (Best C) → Type 0
ChosenAt {C} m ρs s xs n o = Few (map rank_part xs) → (G : Lists C) → G.rules ≡ ρs → o ≡ choose m G s (map rank_part xs) n (rank_part (at xs n))

-- ys is xs with the rule of each place chosen, where xs has few chain rules
abbrev pub Chosen : {C : Type 0} → Model C → List (RuleOf C) → Applied (Ranks C) → List (Option (Best C)) → List (Option (Best C)) → Type 0
Chosen {C} m ρs s xs ys = Few (map rank_part xs) → (G : Lists C) → G.rules ≡ ρs → ys ≡ choices m G s (map rank_part xs) 0 (map rank_part xs)

-- over n nonterminals and the rules ρs, the places hold what is best of the operator with its kids' ranks
abbrev pub BestAre : {C : Type 0} → Model C → List (RuleOf C) → ℕ → Applied (Ranks C) → List (Option (Best C)) → Type 0
BestAre {C} m ρs n s xs = (G : Lists C) → Declared G → G.rules ≡ ρs → count G ≡ n → xs ≡ best_of m G s

-- the same of the row: the rules and costs of the places are its entries
abbrev pub RowIs : {C : Type 0} → Model C → List (RuleOf C) → ℕ → Applied (Ranks C) → List (Option (Best C)) → Type 0
RowIs {C} m ρs n s xs = (G : Lists C) → Declared G → G.rules ≡ ρs → count G ≡ n → map cost_entry xs ≡ row_of m (best_of m G s)
