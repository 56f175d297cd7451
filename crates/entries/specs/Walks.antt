-- Rows kept as walks through a list of entries: each entry of a row follows the one before it.
use Rattle.std.specs.Prelude.{◌≡◌, ℕ, zero, suc, ◌*◌, ◌≤◌, Bool, cond, List, [], ◌∷◌, map, length, Some, None, Option, nat_lt}
use Rattle.std.specs.Coded.{Coded-set, coded_ℕ, coded_list, coded_option, Π_prop, →_prop, le_prop}
use Rattle.std.specs.List.{slice_get}
use Rattle.std.specs.Option.{option_and_then}
use Rattle.cost.specs.Model.{Model}
use Rattle.covers.specs.Held.{In, place, same_row}
use Rattle.covers.specs.Rows.{Row}
use Rattle.table.specs.Keys.{place_of}
use Rattle.entries.specs.declared.Entry.{Entry}
use Rattle.entries.specs.declared.RowEnd.{RowEnd}
use Rattle.entries.specs.Keys.{stands, entry_after, entry_key}

-- the entry at a place, which may be none
abbrev pub entry_at : {C : Type 0} → List (Entry C) → Option ℕ → Option (Entry C)
entry_at es o = option_and_then (slice_get es) o

-- the place before an entry, and what stands at it
abbrev pub before_of : {C : Type 0} → Option (Entry C) → Option ℕ
before_of o = option_and_then (λ e. e.before) o

abbrev pub choice_in : {C : Type 0} → Option (Entry C) → Option (ℕ × C)
choice_in o = option_and_then (λ e. stands e.choice) o

-- the last n entries on the way that ends at the place b, and after them xs
abbrev pub back : {C : Type 0} → List (Entry C) → ℕ → Option ℕ → Row C → Row C
back es zero b xs = xs
back es (suc n) b xs = back es n (before_of (entry_at es b)) (choice_in (entry_at es b) ∷ xs)

-- what f says of a value, where there is one
abbrev pub onward : {A B : Type 0} → Option A → (A → Option B) → Option B
onward o f = option_and_then f o

-- where the walk of a row's entries, on from the place b, ends: none where an entry of it is not in the list
abbrev pub walk : {C : Type 0} → Model C → List (Entry C) → Option ℕ → Row C → Option (Option ℕ)
walk m es b [] = Some b
walk m es b (x ∷ xs) = onward (place_of (entry_key m) es (entry_after b x)) (λ p. walk m es (Some p) xs)

-- The entries es and the ends ps keep these rows, all of the width w: each row's walk ends at the row's end. There are no more
-- entries than the rows have together.
pub record Keeps {C : Type 0} (m : Model C) (w : ℕ) (es : List (Entry C)) (ps : List RowEnd) (rows : List (Row C)) : Type 0 where
  pub wide : (x : Row C) → In x rows → length x ≡ w
  pub few : length es ≤ length rows * w
  pub ended : map (walk m es None) rows ≡ map (λ e. Some e.0) ps

-- which has one proof at most
pub Keeps-prop : {C : Type 0} (m : Model C) (w : ℕ) (es : List (Entry C)) (ps : List RowEnd) (rows : List (Row C))
    → IsProp (Keeps m w es ps rows)
Keeps-prop m w es ps rows p q = λ i. record {
  wide = Π_prop (λ x. →_prop (Coded-set coded_ℕ _ _)) p.wide q.wide i;
  few = le_prop p.few q.few i;
  ended = Coded-set (coded_list (coded_option (coded_option coded_ℕ))) _ _ p.ended q.ended i;
}

-- the rows of the width w that have these ends, in order
abbrev pub rows_from : {C : Type 0} → ℕ → List (Entry C) → List RowEnd → List (Row C)
rows_from w es ps = map (λ e. back es w e.0 []) ps

-- the place of the first in the list that is the same as x, or none
abbrev pub seen : {A : Type 0} → (A → A → Bool) → List A → A → Option ℕ
seen same xs x = cond (nat_lt (place same xs x) (length xs)) (Some (place same xs x)) None

-- the place of a row among the rows, or none
abbrev pub row_place : {C : Type 0} → Model C → List (Row C) → Row C → Option ℕ
row_place m rows x = seen (same_row m) rows x
