-- Rows in row places: as many places for each node as there are nonterminals.
use Rattle.std.specs.Prelude.{◌≡◌, ℕ, ◌+◌, ◌*◌, ◌<◌, ◌≤◌, List, length, take, drop, Option}
use Rattle.std.specs.Option.{option_map}
use Rattle.cost.specs.Model.{Model}
use Rattle.grammar.specs.Lists.{RuleOf, Lists, Declared}
use Rattle.covers.specs.Trees.{Applied, leaf, unary, binary, count}
use Rattle.covers.specs.Ranks.{at}
use Rattle.covers.specs.Rows.{Row, cost_row_from}
use Rattle.nodes.specs.declared.Node.{Node as CodeNode}
use Rattle.nodes.specs.Views.{node_of}
use Rattle.row.specs.Views.{row_in}
use Rattle.row.specs.declared.work.Work.{Work}

-- the row of node i, where each node has n places
abbrev pub row_at : {C : Type 0} → List (Option (Work C)) → ℕ → ℕ → Row C
row_at places n i = row_in (take n (drop (i * n) places))

-- an operator with the rows of its kids, which are given by their numbers
abbrev pub rows_under : {C : Type 0} → List (Option (Work C)) → ℕ → Applied ℕ → Applied (Row C)
rows_under places n (leaf op) = leaf op
rows_under places n (unary op a) = unary op (row_at places n a)
rows_under places n (binary op a b) = binary op (row_at places n a) (row_at places n b)

-- each kid's row has its places
abbrev pub KidsKept : {C : Type 0} → List (Option (Work C)) → ℕ → Applied ℕ → Type 0
KidsKept places n (leaf op) = Unit {0}
KidsKept places n (unary op a) = a * n + n ≤ length places
KidsKept places n (binary op a b) = (a * n + n ≤ length places) × (b * n + n ≤ length places)

-- from the rules ρs, over as many nonterminals as there are places, they hold the row of an operator with its kids' rows
abbrev pub RowOver : {C : Type 0} → Model C → List (RuleOf C) → Applied (Row C) → List (Option (Work C)) → Type 0
RowOver {C} m ρs s places = (G : Lists C) → Declared G → G.rules ≡ ρs → count G ≡ length places → row_in places ≡ cost_row_from m G s

-- from the places xs, the places ys once the row is moved to the node before node k: that node has the row, and each node before it has
-- its own as it was
pub record RowMoved {C : Type 0} (row : List (Option (Work C))) (k : ℕ) (xs ys : List (Option (Work C))) : Type 0 where
  pub moved : (i : ℕ) → i + 1 ≡ k → i * length row + length row ≤ length xs → row_at ys (length row) i ≡ row_in row
  pub others : (i : ℕ) → i + 1 < k → row_at ys (length row) i ≡ row_at xs (length row) i

-- from the newest row and the earlier ones, those once the row of node x with the number k is added: the newest row is moved, and the new
-- one is worked out from its kids' rows
pub record RowAdded {C : Type 0} (m : Model C) (ρs : List (RuleOf C)) (k : ℕ) (x : CodeNode) (newest earlier newest' earlier' : List (Option (Work C))) : Type 0 where
  pub size : length newest' ≡ length newest
  pub sizes : length earlier' ≡ length earlier
  pub moved : RowMoved newest k earlier earlier'
  pub over : KidsKept earlier' (length newest) (node_of x).top → RowOver m ρs (rows_under earlier' (length newest) (node_of x).top) newest'

-- the rule that a row has for nonterminal n
abbrev pub rule_in : {C : Type 0} → Row C → ℕ → Option ℕ
rule_in x n = option_map (λ e. e.0) (at x n)
