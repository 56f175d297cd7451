-- The costs of a row, as the computation of a row takes them.
use Rattle.std.proofs.Common.{◌≡◌, ℕ, List, [], ◌∷◌, map, Some, None, Option, refl, ap, ◌∙◌}
use Rattle.std.specs.Option.{option_map}
use Rattle.covers.specs.Ranks.{at}
use Rattle.covers.specs.Rows.{Row, as_rank, cost_entry}
use Rattle.covers.proofs.Shifts.{at_map}
use Rattle.row.specs.Views.{no_chains, costs_of, kept_of, row_in}
use Rattle.row.specs.declared.work.Work.{Work}

entry_cost : {C : Type 0} (o : Option (ℕ × C)) → no_chains (option_map (λ e. e.1) o) ≡ as_rank o
entry_cost None = refl
entry_cost (Some x) = refl

pub costs_as_ranks : {C : Type 0} (x : Row C) → map no_chains (costs_of x) ≡ map as_rank x
costs_as_ranks [] = refl
costs_as_ranks (o ∷ x) = λ i. entry_cost o i ∷ costs_as_ranks x i

-- the cost of one entry of the row in work places
pub at_costs : {C : Type 0} (ws : List (Option (Work C))) (n : ℕ) → at (costs_of (row_in ws)) n ≡ option_map (λ e. e.1) (cost_entry (kept_of (at ws n)))
at_costs {C} ws n =
    at_map (option_map (λ (e : ℕ × C). e.1)) refl (map cost_entry (map kept_of ws)) n ∙ ap (option_map (λ e. e.1)) (at_map cost_entry refl (map kept_of ws) n ∙ ap cost_entry (at_map kept_of refl ws n))
