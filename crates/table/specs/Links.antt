-- The link of a new key.
use Rattle.std.specs.Prelude.{◌≡◌, ℕ, List, length, get_or, Some, ◌≢◌}
use Rattle.table.specs.declared.Slot.{Slot}

-- From the slots xs, the slots ys once k is stored in slot n, which is linked in at the head of bucket b.
pub record Linked {K : Type 0} (xs : List (Slot K)) (n b : ℕ) (k : K) (ys : List (Slot K)) : Type 0 where
  pub size : length ys ≡ length xs
  pub old_keys : (d : Slot K) (j : ℕ) → (j ≢ n) → (get_or ys j d).key ≡ (get_or xs j d).key
  pub new_key : (d : Slot K) → (get_or ys n d).key ≡ k
  pub old_nexts : (d : Slot K) (j : ℕ) → (j ≢ n) → (get_or ys j d).next ≡ (get_or xs j d).next
  pub new_next : (d : Slot K) → (get_or ys n d).next ≡ (get_or xs b d).head
  pub old_heads : (d : Slot K) (j : ℕ) → (j ≢ b) → (get_or ys j d).head ≡ (get_or xs j d).head
  pub new_head : (d : Slot K) → (get_or ys b d).head ≡ Some n
