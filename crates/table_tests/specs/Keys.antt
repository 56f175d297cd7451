-- Two types of keys: one by the number of kids, and one that holds a cost.
use Rattle.std.specs.Prelude.{ℕ, ◌+◌, ◌*◌, ◌%◌, ◌^◌, Bool, false, ◌&&◌, ◌==◌}
use Rattle.std.specs.Ordering.{is_eq}
use Rattle.cost.specs.Model.{Model}
use Rattle.table.specs.Keys.{KeyModel}
use Rattle.table_tests.specs.declared.NodeKey.{NodeKey}
use Rattle.table_tests.specs.declared.NodeKey.TheVariants.{Leaf, Unary, Binary}
use Rattle.table_tests.specs.declared.Entry.{Entry}

abbrev pub node_same : NodeKey → NodeKey → Bool
node_same (Leaf o) (Leaf p) = o == p
node_same (Leaf o) (Unary p b) = false
node_same (Leaf o) (Binary p b d) = false
node_same (Unary o a) (Leaf p) = false
node_same (Unary o a) (Unary p b) = o == p && a == b
node_same (Unary o a) (Binary p b d) = false
node_same (Binary o a c) (Leaf p) = false
node_same (Binary o a c) (Unary p b) = false
node_same (Binary o a c) (Binary p b d) = o == p && (a == b && c == d)

abbrev pub node_scatter : NodeKey → ℕ
node_scatter (Leaf o) = o
node_scatter (Unary o a) = (o + a * 64 % 2 ^ 32) % 2 ^ 32
node_scatter (Binary o a c) = ((o + a * 64 % 2 ^ 32) % 2 ^ 32 + c * 262144 % 2 ^ 32) % 2 ^ 32

abbrev pub node_key : KeyModel NodeKey
node_key = record { same = node_same; scatter = node_scatter }

abbrev pub entry_key : {C : Type 0} → Model C → KeyModel (Entry C)
entry_key m = record {
  same = λ x y. (x.before == y.before) && is_eq (m.cmp x.cost y.cost);
  scatter = λ x. (x.before + m.weight x.cost * 31 % 2 ^ 32) % 2 ^ 32;
}
