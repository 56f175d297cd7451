-- The forms of a number in a text: counts of kids, costs, cycles and payloads.
use Rattle.std.specs.Prelude.{ℕ, ◌+◌, ◌-◌, ◌*◌, Bool, cond, ◌&&◌, List, [], ◌∷◌, length, take, drop, ℤ, pos, neg_ℤ, Some, None, Option, ◌==◌, nat_le, nat_lt, slice_index}
use Rattle.std.specs.Option.{option_map}
use Rattle.std.specs.Char.{is_ascii_digit}

-- the number that digits write after n
unfoldable pub digits_from : ℕ → List ℕ → Option ℕ
digits_from n [] = Some n
digits_from n (x ∷ xs) = cond (is_ascii_digit x) (digits_from (n * 10 + (x - 48)) xs) None

-- the number that 1 to w digits write
unfoldable pub digits_of : ℕ → List ℕ → Option ℕ
digits_of w xs = cond (nat_lt 0 (length xs) && nat_le (length xs) w) (digits_from 0 xs) None

-- a number that is at most m
abbrev pub at_most : ℕ → Option ℕ → Option ℕ
at_most m None = None
at_most m (Some n) = cond (nat_le n m) (Some n) None

-- one digit, at most 2
abbrev pub kids_of : List ℕ → Option ℕ
kids_of xs = at_most 2 (digits_of 1 xs)

-- 1 to 4 digits, at most 1000
abbrev pub cost_of : List ℕ → Option ℕ
cost_of xs = at_most 1000 (digits_of 4 xs)

-- wholes and tenths as wholes: a half goes upwards
abbrev pub rounded : ℕ → ℕ → ℕ
rounded whole tenths = cond (nat_le 5 tenths) (whole + 1) whole

-- the number of wholes and tenths, where both are given
abbrev pub wholes : Option ℕ → Option ℕ → Option ℕ
wholes None t = None
wholes (Some n) None = None
wholes (Some n) (Some t) = Some (rounded n t)

-- a point stands before the last byte
abbrev pub pointed : List ℕ → Bool
pointed xs = nat_le 2 (length xs) && slice_index xs (length xs - 2) == 46

-- 1 to 4 digits, and perhaps a point and one digit
abbrev pub decimal_of : List ℕ → Option ℕ
decimal_of xs =
    cond (pointed xs) (wholes (digits_of 4 (take (length xs - 2) xs)) (digits_of 1 (slice_index xs (length xs - 1) ∷ []))) (digits_of 4 xs)

-- a decimal, rounded to whole and then at most 1000
abbrev pub cycles_of : List ℕ → Option ℕ
cycles_of xs = at_most 1000 (decimal_of xs)

-- an optional '-' and 1 to 10 digits, from -2147483648 to 2147483647
abbrev pub payload_of : List ℕ → Option ℤ
payload_of xs =
    cond (slice_index xs 0 == 45) (option_map (λ n. neg_ℤ (pos n)) (at_most 2147483648 (digits_of 10 (drop 1 xs)))) (option_map pos (at_most 2147483647 (digits_of 10 xs)))
