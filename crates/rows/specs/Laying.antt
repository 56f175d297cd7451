-- What putting the entries of a row does to a list of entries.
use Rattle.std.specs.Prelude.{◌≡◌, ℕ, ◌+◌, ◌≤◌, List, length, Some, None, Ok, Option, Result}
use Rattle.cost.specs.Model.{Model}
use Rattle.covers.specs.Rows.{Row}
use Rattle.table.specs.declared.Refusal.{Refusal}
use Rattle.entries.specs.declared.Entry.{Entry}
use Rattle.entries.specs.Walks.{walk}

-- From the entries es, the entries fs once those of the row x are put: there are no more new entries than x has, every walk ends
-- where it did, and the walk of x ends where the answer says.
pub record LaysRow {C : Type 0} (m : Model C) (es fs : List (Entry C)) (x : Row C) (r : Result (Option ℕ) Refusal) : Type 0 where
  pub few : length fs ≤ length es + length x
  pub grows : (y : Row C) (e : Option ℕ) → walk m es None y ≡ Some e → walk m fs None y ≡ Some e
  pub end : Option ℕ
  pub answer : r ≡ Ok end
  pub walked : walk m fs None x ≡ Some end
