-- What a name holds.
use Rattle.std.specs.Prelude.{ℕ, List, take, Some, None, Ok, Err, Option, Result}
use Rattle.name.specs.declared.Name.{Name}

-- the bytes of a name
abbrev pub text : Name → List ℕ
text n = take n.len n.bytes

-- the text of the name that was made, if one was
abbrev pub ok_text : {E : Type 0} → Result Name E → Option (List ℕ)
ok_text (Ok n) = Some (text n)
ok_text (Err e) = None
