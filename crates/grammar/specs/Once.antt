-- Each of these facts has one proof at most, as a type's invariant must.
use Rattle.std.specs.Prelude.{ℕ, List}
use Rattle.std.proofs.Props.{props}
use Rattle.cost.specs.Model.{Model}
use Rattle.grammar.specs.Lists.{OperatorOf, FormOf, chain, base0, base1, base2, Lists, FormFits, Sealed}

pub form_once : (ops : List OperatorOf) (n left : ℕ) (f : FormOf) → IsProp (FormFits ops n left f)
form_once ops n left (chain s) = Prim.hlevel props
form_once ops n left (base0 o) = Prim.hlevel props
form_once ops n left (base1 o a) = Prim.hlevel props
form_once ops n left (base2 o a b) = Prim.hlevel props

pub sealed_once : {C : Type 0} (m : Model C) (G : Lists C) → IsProp (Sealed m G)
sealed_once m G = Prim.hlevel (props, form_once)
