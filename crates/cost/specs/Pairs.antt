-- The make of cost of two parts, each of any make, of which the first counts before the second.
use Rattle.std.specs.Prelude.{max}
use Rattle.std.specs.Ordering.{ordering_then}
use Rattle.cost.specs.Model.{Model}
use Rattle.cost.specs.declared.Pair.{Pair}

-- the pair of a and b
abbrev pub pair : {A B : Type 0} → A → B → Pair A B
pair a b = record { first = a; second = b }

-- pairs add and subtract part by part, compare lexicographically, and weigh the larger of two weights
abbrev pub pair_model : {A B : Type 0} → Model A → Model B → Model (Pair A B)
pair_model m n = record {
  zero = pair m.zero n.zero;
  sum = λ a b. pair (m.sum a.first b.first) (n.sum a.second b.second);
  diff = λ a b. pair (m.diff a.first b.first) (n.diff a.second b.second);
  cmp = λ a b. ordering_then (m.cmp a.first b.first) (n.cmp a.second b.second);
  weight = λ a. max (m.weight a.first) (n.weight a.second);
}
