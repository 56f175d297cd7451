-- When an automaton is born.
use Rattle.std.specs.Prelude.{ℕ, ◌*◌, Bool, cond, ◌&&◌, length, Some, None, Option, nat_le}
use Rattle.label.specs.declared.refusals.BirthRefusal.{BirthRefusal}
use Rattle.label.specs.declared.refusals.BirthRefusal.TheVariants.{Capacity as OutOfRange, Memory as TooShort}
use Rattle.automaton.specs.declared.Capacities.{Capacities}
use Rattle.automaton.specs.declared.Memory.{Memory}

-- how many places each piece of memory has
pub record Lengths : Type 0 where
  pub nodes : ℕ
  pub keys : ℕ
  pub labels : ℕ
  pub rows : ℕ
  pub work : ℕ

abbrev pub lengths : {C : Type 0} → Memory C → Lengths
lengths x = record { nodes = length x.nodes.now; keys = length x.keys.now; labels = length x.labels.now; rows = length x.rows.now; work = length x.work.now }

-- a capacity is from 1 to a largest one
abbrev pub in_range : ℕ → ℕ → Bool
in_range c most = nat_le 1 c && nat_le c most

-- nodes are from 1 to 2,048, keys from 1 to 65,536 and rows from 1 to 4,096
abbrev pub ranged : Capacities → Bool
ranged c = in_range c.nodes 2048 && (in_range c.keys 65536 && in_range c.rows 4096)

-- there is a place for each node, key and label, and for each nonterminal in each row and in the work places
abbrev pub enough : Capacities → ℕ → Lengths → Bool
enough c n x = nat_le c.nodes x.nodes && (nat_le c.keys x.keys && (nat_le c.rows x.labels && (nat_le (c.rows * n) x.rows && nat_le n x.work)))

-- why an automaton with these capacities, for n nonterminals, is refused with this memory; none where it is born
abbrev pub birth : Capacities → ℕ → Lengths → Option BirthRefusal
birth c n x = cond (ranged c) (cond (enough c n x) None (Some TooShort)) (Some OutOfRange)
