-- What the states of an automaton mean: the nodes accepted since they were cleared.
use Rattle.std.specs.Prelude.{◌≡◌, ℕ, ◌≤◌, List, [], ◌∷◌, ◌++◌, map, length, Some, None, Ok, Err, Option, Result}
use Rattle.cost.specs.Model.{Model}
use Rattle.grammar.specs.Lists.{Lists, Sealed}
use Rattle.covers.specs.Trees.{Tree, count, size}
use Rattle.covers.specs.Held.{In, Accepted, rows_held, label}
use Rattle.label.specs.declared.refusals.NoRoom.{NoRoom}
use Rattle.table.specs.Tables.{keys_of, room_of}
use Rattle.rows.specs.Meaning.{rows_of, rows_room}
use Rattle.states.specs.declared.states.States.{States}
use Rattle.states.specs.Keys.{lead_of}
use Rattle.states.specs.Leading.{Leads}
use Rattle.states.specs.Room.{lack}

-- v means the accepted nodes ts, each given as its subtree: it holds their rows, and their keys with their labels
pub record Knows {C : Type 0} {cost eq keyed : _} (m : Model C) (G : Lists C) (v : States C cost eq keyed) (ts : List Tree) : Type 0 where
  pub sealed : Sealed m G
  pub accepts : Accepted ts
  pub small : (t : Tree) → In t ts → size t ≤ 2048
  pub leads : Leads m G ts (map lead_of (keys_of v.transitions))
  pub rows : rows_of v.rows ≡ rows_held m G ts
  pub wide : v.rows.width ≡ count G
  pub work : length v.work.now ≡ count G
  pub key_room : v.most_keys ≤ room_of v.transitions
  pub row_room : v.most_rows ≤ rows_room v.rows

-- the tables, and what may be in them, as they were: only the work places may differ
pub record SameTables {C : Type 0} {cost eq keyed : _} (v u : States C cost eq keyed) : Type 0 where
  pub transitions : u.transitions ≡ v.transitions
  pub rows : u.rows ≡ v.rows
  pub most_keys : u.most_keys ≡ v.most_keys
  pub most_rows : u.most_rows ≡ v.most_rows

-- what asking v for the label of t answers, where u is what it becomes: where there is no room, the reason, nothing is accepted, and the
-- tables are as they were; else its label, and t is accepted
abbrev pub GivesBy : {C : Type 0} {cost eq keyed : _} → Option NoRoom → Model C → Lists C → States C cost eq keyed → States C cost eq keyed → List Tree → Tree → Result ℕ NoRoom → Type 0
GivesBy (Some e) m G v u ts t r = (r ≡ Err e) × Knows m G u ts × SameTables v u
GivesBy None m G v u ts t r = (r ≡ Ok (label m G (ts ++ t ∷ []) t)) × Knows m G u (ts ++ t ∷ [])

abbrev pub Gives : {C : Type 0} {cost eq keyed : _} → Model C → Lists C → States C cost eq keyed → States C cost eq keyed → List Tree → Tree → Result ℕ NoRoom → Type 0
Gives m G v u ts t r = GivesBy (lack m G v.most_keys v.most_rows ts t) m G v u ts t r

-- the limits stay as they were given at birth
pub record SameLimits {C : Type 0} {cost eq keyed : _} (v u : States C cost eq keyed) : Type 0 where
  pub most_keys : u.most_keys ≡ v.most_keys
  pub most_rows : u.most_rows ≡ v.most_rows
