-- What follows from the outcome of a check.
use Rattle.std.specs.Prelude.{Ok, Err, Result}

-- an outcome with another value
abbrev pub map_ok : {A B E : Type 0} → (A → B) → Result A E → Result B E
map_ok f (Ok x) = Ok (f x)
map_ok f (Err e) = Err e

-- what follows a value, up to the first error
abbrev pub and_then : {A B E : Type 0} → Result A E → (A → Result B E) → Result B E
and_then (Ok x) f = f x
and_then (Err e) f = Err e

-- an outcome with another error
abbrev pub map_err : {A D E : Type 0} → (D → E) → Result A D → Result A E
map_err f (Ok x) = Ok x
map_err f (Err e) = Err (f e)
