-- What the calls of a draft and of declarations answer, as the lists have it.
use Rattle.std.specs.Prelude.{Option, Result}
use Rattle.std.specs.Option.{option_map}
use Rattle.name.specs.Names.{text}
use Rattle.name.specs.Outcomes.{map_ok}
use Rattle.name.specs.declared.Name.{Name}
use Rattle.grammar.specs.Lists.{FormOf, Text}
use Rattle.grammar.specs.Views.{form_of}
use Rattle.grammar.specs.declared.parts.Form.{Form}

abbrev pub form_answer : {E : Type 0} → Result Form E → Result FormOf E
form_answer r = map_ok form_of r

-- the name of a kid, where one is given
abbrev pub kid_text : Option Name → Option Text
kid_text o = option_map text o
