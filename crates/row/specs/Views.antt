-- What the work places and the kids' rows stand for.
use Rattle.std.specs.Prelude.{List, map, Option}
use Rattle.std.specs.Option.{option_map}
use Rattle.covers.specs.Trees.{Applied as AppliedOf}
use Rattle.covers.specs.Ranks.{Rank, Ranks, Best}
use Rattle.covers.specs.Rows.{Row, cost_entry}
use denote.Ref.{Bor}
use Rattle.applied.specs.Views.{applied_of}
use Rattle.applied.specs.declared.Applied.{Applied}
use Rattle.row.specs.declared.work.Work.{Work}

-- a work place as cost, number of chain rules and rule
abbrev pub kept : {C : Type 0} → Work C → Best C
kept w = (w.cost, w.chains, w.rule.0)

abbrev pub kept_of : {C : Type 0} → Option (Work C) → Option (Best C)
kept_of o = option_map kept o

-- a cost with no chain rule
abbrev pub no_chains : {C : Type 0} → Option C → Option (Rank C)
no_chains o = option_map (λ c. (c, 0)) o

-- an operator with its kids' ranks
abbrev pub applied : {C K : Type 0} → (K → List (Option C)) → Applied (Bor K) → AppliedOf (Ranks C)
applied f s = applied_of (λ a. map no_chains (f a.now)) s

-- the row in work places: the rule and the cost of each
abbrev pub row_in : {C : Type 0} → List (Option (Work C)) → Row C
row_in ws = map cost_entry (map kept_of ws)

-- the costs of a row, without the rules
abbrev pub costs_of : {C : Type 0} → Row C → List (Option C)
costs_of x = map (option_map (λ e. e.1)) x
