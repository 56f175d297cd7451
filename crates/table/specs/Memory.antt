-- The memory that a table is lent.
use Rattle.std.specs.Borrow.{MutBor}
use Rattle.std.specs.Prelude.{◌≡◌, List, length}

-- The same lent slice, of the same length.
pub record SameSlice {A : Type 0} (s t : MutBor (List A)) : Type 0 where
  pub length : length t.now ≡ length s.now
  pub named : t.ghost_name ≡ s.ghost_name
