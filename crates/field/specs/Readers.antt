-- What a reader of a line has yet to hand out.
use Rattle.std.specs.Prelude.{◌≡◌, ℕ, ◌+◌, cond, List, [], ◌∷◌, length, drop, IfOk, Result, nat_le}
use Rattle.field.specs.Bytes.{split_at}
use Rattle.field.specs.declared.line_reader.LineReader.{LineReader}
use Rattle.field.specs.declared.parts.Part.{Part}

-- the fields still to come
unfoldable pub to_come : LineReader → List (List ℕ)
to_come r = cond (nat_le r.cursor (length r.line.now)) (split_at r.mark (drop r.cursor r.line.now)) []

-- how many fields were handed out
abbrev pub handed : LineReader → ℕ
handed r = r.fields

-- the place of the next field
abbrev pub next_place : LineReader → ℕ
next_place r = handed r + 1

-- r is about to hand out the parts of a line between marks
pub record Starts (mark : ℕ) (line : List ℕ) (r : LineReader) : Type 0 where
  pub fields : to_come r ≡ split_at mark line
  pub none : handed r ≡ 0

-- p was the next field
pub record Hands (before : LineReader) (p : Part) (after : LineReader) : Type 0 where
  pub text : to_come before ≡ p.text.now ∷ to_come after
  pub place : p.place ≡ next_place before
  pub count : handed after ≡ handed before + 1

-- there was no next field
pub record Ended (before after : LineReader) : Type 0 where
  pub none : to_come before ≡ []
  pub still : to_come after ≡ []
  pub count : handed after ≡ handed before

-- the fields after the first
unfoldable pub rest : List (List ℕ) → List (List ℕ)
rest [] = []
rest (x ∷ xs) = xs

-- 1 where there is a first field
unfoldable pub taken : List (List ℕ) → ℕ
taken [] = 0
taken (x ∷ xs) = 1

-- the next field was taken, if there was one
pub record Moved {A E : Type 0} (r : Result A E) (from to : LineReader) : Type 0 where
  pub after : to_come to ≡ rest (to_come from)
  pub count : handed to ≡ handed from + taken (to_come from)
  pub one : IfOk r (λ _. handed to ≡ handed from + 1)
