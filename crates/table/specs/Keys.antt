-- Keys, and lists of keys: what a table means, however it stores them.
use Rattle.std.specs.Prelude.{◌≡◌, ℕ, suc, ◌<◌, Bool, true, false, cond, List, [], ◌∷◌, ◌++◌, length, Some, None, Ok, Err, Option, Result, ◌==◌, ◌≢◌, nat_lt, slice_index_or}
use Rattle.std.specs.Option.{option_map}
use Rattle.table.specs.declared.Refusal.{Refusal}
use Rattle.table.specs.declared.Refusal.TheVariants.{Full}

-- What a type of keys says of itself: which keys are the same, and each key's scatter number.
pub record KeyModel (K : Type 0) : Type 0 where
  pub same : K → K → Bool
  pub scatter : K → ℕ

-- Sameness is an equivalence, and same keys have the same scatter number.
pub record KeyLaws {K : Type 0} (m : KeyModel K) : Type 0 where
  pub reflexive : (x : K) → m.same x x ≡ true
  pub symmetric : (x y : K) → m.same x y ≡ true → m.same y x ≡ true
  pub transitive : (x y z : K) → m.same x y ≡ true → m.same y z ≡ true → m.same x z ≡ true
  pub alike : (x y : K) → m.same x y ≡ true → m.scatter x ≡ m.scatter y

-- A number is a key: equal numbers are the same, and each is its own scatter number.
abbrev pub number_key : KeyModel ℕ
number_key = record { same = λ x y. (x == y); scatter = λ x. x }

-- The key at place i is the same as k.
abbrev pub Held : {K : Type 0} → KeyModel K → List K → K → ℕ → Type 0
Held {K} m keys k i = (i < length keys) × ((d : K) → m.same (slice_index_or keys i d) k ≡ true)

-- No key is the same as k.
abbrev pub Absent : {K : Type 0} → KeyModel K → List K → K → Type 0
Absent {K} m keys k = (i : ℕ) (d : K) → i < length keys → m.same (slice_index_or keys i d) k ≢ true

-- No two keys are the same.
abbrev pub Apart : {K : Type 0} → KeyModel K → List K → Type 0
Apart {K} m keys = (i j : ℕ) (d : K) → i < j → j < length keys → m.same (slice_index_or keys i d) (slice_index_or keys j d) ≢ true

-- The place of the first key that is the same as k, counted from 0, or none.
unfoldable pub place_of : {K : Type 0} → KeyModel K → List K → K → Option ℕ
place_of m [] k = None
place_of m (x ∷ xs) k = cond (m.same x k) (Some 0) (option_map suc (place_of m xs k))

-- What a put answers, given the place of the key, the count of keys and the number of places: the key's place, else the
-- place at the end of the list, or a refusal where no place is free.
abbrev pub put_at : Option ℕ → ℕ → ℕ → Result ℕ Refusal
put_at (Some i) n room = Ok i
put_at None n room = cond (nat_lt n room) (Ok n) (Err Full)

-- What a put of k answers.
abbrev pub put_answer : {K : Type 0} → KeyModel K → ℕ → List K → K → Result ℕ Refusal
put_answer m room keys k = put_at (place_of m keys k) (length keys) room

-- Whether a put adds its key: the key is new and a place is free.
abbrev pub adds_at : Option ℕ → ℕ → ℕ → Bool
adds_at (Some i) n room = false
adds_at None n room = nat_lt n room

abbrev pub adds : {K : Type 0} → KeyModel K → ℕ → List K → K → Bool
adds m room keys k = adds_at (place_of m keys k) (length keys) room

-- The list after a put of k.
abbrev pub put_keys : {K : Type 0} → KeyModel K → ℕ → List K → K → List K
put_keys m room keys k = cond (adds m room keys k) (keys ++ k ∷ []) keys

-- The number of a refusal.
abbrev pub number_of : Refusal → ℕ
number_of Full = 35
