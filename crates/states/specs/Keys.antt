-- Keys of nodes, with the labels that they lead to, as keys of a table.
use Rattle.std.specs.Prelude.{ℕ, ◌+◌, ◌*◌, ◌%◌, ◌^◌}
use Rattle.covers.specs.Trees.{leaf, unary, binary}
use Rattle.covers.specs.Held.{Key, same_key}
use Rattle.table.specs.Keys.{KeyModel}
use Rattle.applied.specs.Views.{applied_of}
use Rattle.applied.specs.declared.Applied.{Applied}
use Rattle.applied.specs.declared.Applied.TheVariants.{Leaf}
use Rattle.nodes.specs.declared.Label.{Label}
use Rattle.states.specs.declared.transition.Transition.{Transition}

-- a key as the definitions have it
abbrev pub key_of : Applied Label → Key
key_of k = applied_of (λ (l : Label). l.0) k

-- a key with its label
abbrev pub lead_of : Transition → Key × ℕ
lead_of t = (key_of t.key, t.label.0)

abbrev pub key_scatter : Key → ℕ
key_scatter (leaf o) = o % 2 ^ 32
key_scatter (unary o a) = (o % 2 ^ 32 + a % 2 ^ 32 * 64 % 2 ^ 32) % 2 ^ 32
key_scatter (binary o a b) = ((o % 2 ^ 32 + a % 2 ^ 32 * 64 % 2 ^ 32) % 2 ^ 32 + b % 2 ^ 32 * 262144 % 2 ^ 32) % 2 ^ 32

-- transitions are the same where their keys are
abbrev pub transition_key : KeyModel Transition
transition_key = record { same = λ x y. same_key (key_of x.key) (key_of y.key); scatter = λ x. key_scatter (key_of x.key) }

-- what unused memory holds
abbrev pub filler : Transition
filler = record { key = Leaf record { 0 = 0 }; label = record { 0 = 0 } }
