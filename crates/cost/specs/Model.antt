-- What a make of cost is, and the laws that each make keeps.
use Rattle.std.specs.Prelude.{◌≡◌, ℕ, ◌+◌, ◌≤◌, Bool, Decides}
use Rattle.std.specs.declared.cmp.Ordering.TheVariants.{Less, Equal}
use Rattle.std.specs.declared.cmp.Ordering.{Ordering}
use Rattle.std.specs.Ordering.{ordering_reverse}

-- the operations of a make of cost; cmp a b is Less where a is before b, and Equal where they are the same
pub record Model (C : Type 0) : Type 0 where
  pub zero : C
  pub sum : C → C → C
  pub diff : C → C → C
  pub cmp : C → C → Ordering
  pub weight : C → ℕ

-- the laws of sums and differences are asked only of costs whose weights add up to at most this
abbrev pub limit : ℕ
limit = 1073741824

-- cmp is a total order in which same means equal. Within the limit the sum is commutative and
-- associative, has zero as its neutral element, undoes a difference and keeps the order strictly;
-- a sum or a difference weighs at most what its two costs weigh together, and zero weighs nothing.
pub record Laws {C : Type 0} (m : Model C) : Type 0 where
  -- b compared with a is the reverse of a compared with b; so each cost is the same as itself
  pub cmp_flip : (a b : C) → m.cmp a b ≡ ordering_reverse (m.cmp b a)
  -- the order is transitive
  pub cmp_chain : (a b c : C) → m.cmp a b ≡ Less → m.cmp b c ≡ Less → m.cmp a c ≡ Less
  -- costs that compare as the same are equal
  pub cmp_same : (a b : C) → m.cmp a b ≡ Equal → a ≡ b
  -- a + b = b + a
  pub sum_swap : (a b : C) → m.weight a + m.weight b ≤ limit → m.sum a b ≡ m.sum b a
  -- (a + b) + c = a + (b + c)
  pub sum_group : (a b c : C) → m.weight a + m.weight b + m.weight c ≤ limit → m.sum (m.sum a b) c ≡ m.sum a (m.sum b c)
  -- a + 0 = a
  pub sum_zero : (a : C) → m.weight a ≤ limit → m.sum a m.zero ≡ a
  -- (a - b) + b = a
  pub diff_sum : (a b : C) → m.weight a + m.weight b ≤ limit → m.sum (m.diff a b) b ≡ a
  -- where a is before b, a + c is before b + c
  pub sum_keeps : (a b c : C) → m.weight a + m.weight b + m.weight c ≤ limit → m.cmp a b ≡ Less → m.cmp (m.sum a c) (m.sum b c) ≡ Less
  -- zero weighs nothing
  pub zero_weight : m.weight m.zero ≡ 0
  -- a + b weighs at most what a and b weigh together
  pub sum_weight : (a b : C) → m.weight a + m.weight b ≤ limit → m.weight (m.sum a b) ≤ m.weight a + m.weight b
  -- so does a - b
  pub diff_weight : (a b : C) → m.weight a + m.weight b ≤ limit → m.weight (m.diff a b) ≤ m.weight a + m.weight b

-- equals a b r says that `==` may answer r of a and b: then r is true exactly where a and b are equal
abbrev pub Exact : {C : Type 0} → (C → C → Bool → Type 0) → Type 0
Exact {C} equals = (a b : C) (r : Bool) → equals a b r → Decides r (a ≡ b)
