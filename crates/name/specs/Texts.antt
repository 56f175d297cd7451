-- Which texts are names.
use Rattle.std.specs.Prelude.{ℕ, Bool, cond, ◌&&◌, ◌||◌, List, length, Some, None, Option, ◌==◌, nat_le, nat_lt}
use Rattle.std.specs.List.{list_all}
use Rattle.std.specs.Char.{is_ascii_alphanumeric}

-- a letter, a digit, '_' or '.'
abbrev pub name_byte : ℕ → Bool
name_byte b = is_ascii_alphanumeric b || (b == 95 || b == 46)

-- 1 to w elements
abbrev pub sized : ℕ → List ℕ → Bool
sized w xs = nat_lt 0 (length xs) && nat_le (length xs) w

-- 1 to 16 letters, digits, '_' and '.'
unfoldable pub is_name : List ℕ → Bool
is_name xs = sized 16 xs && list_all name_byte xs

-- the text of a name, where the bytes are one
abbrev pub name_of : List ℕ → Option (List ℕ)
name_of xs = cond (is_name xs) (Some xs) None
