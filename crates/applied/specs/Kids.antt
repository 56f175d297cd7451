-- An operator with its kids: its parts, and other kids in place of its own.
use Rattle.std.specs.Prelude.{Some, None, Option}
use Rattle.grammar.specs.declared.parts.OperatorNumber.{OperatorNumber}
use Rattle.applied.specs.declared.Applied.{Applied}
use Rattle.applied.specs.declared.Applied.TheVariants.{Leaf, Unary, Binary}

abbrev pub operator_in : {T : Type 0} → Applied T → OperatorNumber
operator_in (Leaf o) = o
operator_in (Unary o a) = o
operator_in (Binary o a b) = o

-- the only or the left kid, where there is one
abbrev pub first_in : {T : Type 0} → Applied T → Option T
first_in (Leaf o) = None
first_in (Unary o a) = Some a
first_in (Binary o a b) = Some a

-- the right kid, where there is one
abbrev pub second_in : {T : Type 0} → Applied T → Option T
second_in (Leaf o) = None
second_in (Unary o a) = None
second_in (Binary o a b) = Some b

-- the operator with as many of x and y as it has kids
abbrev pub over : {T U : Type 0} → Applied T → U → U → Applied U
over (Leaf o) x y = Leaf o
over (Unary o a) x y = Unary o x
over (Binary o a b) x y = Binary o x y
