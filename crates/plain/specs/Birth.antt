-- When a plain labeller is born.
use Rattle.std.specs.Prelude.{ℕ, ◌*◌, Bool, cond, ◌&&◌, Some, None, Option, nat_le}
use Rattle.label.specs.declared.refusals.BirthRefusal.{BirthRefusal}
use Rattle.label.specs.declared.refusals.BirthRefusal.TheVariants.{Capacity, Memory}

-- a capacity of nodes is from 1 to 2,048
abbrev pub node_capacity : ℕ → Bool
node_capacity most = nat_le 1 most && nat_le most 2048

-- why a plain labeller for trees of up to most nodes and n nonterminals is refused, with so many node places and row places; none
-- where it is born
abbrev pub birth : ℕ → ℕ → ℕ → ℕ → Option BirthRefusal
birth most n nodes rows = cond (node_capacity most) (cond (nat_le most nodes && nat_le (most * n) rows) None (Some Memory)) (Some Capacity)
