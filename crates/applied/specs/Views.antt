-- What an operator with its kids stands for in the definitions.
use Rattle.covers.specs.Trees.{Applied as AppliedOf, leaf, unary, binary}
use Rattle.applied.specs.declared.Applied.{Applied}
use Rattle.applied.specs.declared.Applied.TheVariants.{Leaf, Unary, Binary}

-- the operator by its number, with each kid as f gives it
abbrev pub applied_of : {T A : Type 0} → (T → A) → Applied T → AppliedOf A
applied_of f (Leaf o) = leaf o.0
applied_of f (Unary o a) = unary o.0 (f a)
applied_of f (Binary o a b) = binary o.0 (f a) (f b)
