-- A line of output as its fields.
use Rattle.std.specs.Prelude.{ℕ, List, [], ◌∷◌, ◌++◌, vec_items, codes, fold}
use Rattle.listing.specs.declared.Line.{Line}

-- the line with one more field, after a comma
abbrev pub with_field : List ℕ → List ℕ → List ℕ
with_field line field = (line ++ codes ",") ++ field

-- the line with more fields
abbrev pub with_fields : List ℕ → List (List ℕ) → List ℕ
with_fields line fields = fold with_field line fields

-- the fields with a comma between each two
abbrev pub parted : List (List ℕ) → List ℕ
parted [] = []
parted (field ∷ fields) = with_fields field fields

-- the bytes of a line
abbrev pub line_bytes : Line → List ℕ
line_bytes line = vec_items line.bytes
