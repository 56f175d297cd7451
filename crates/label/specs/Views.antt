-- What the answers of a labeller stand for.
use Rattle.std.specs.Prelude.{ℕ, Option, Result}
use Rattle.std.specs.Option.{option_map}
use Rattle.name.specs.Outcomes.{map_ok}
use Rattle.grammar.specs.declared.parts.RuleNumber.{RuleNumber}
use Rattle.nodes.specs.Views.{label_of}
use Rattle.label.specs.declared.Added.{Added}
use Rattle.label.specs.declared.refusals.AddRefusal.{AddRefusal}

-- the number and the label of an added node
abbrev pub added_of : Added → ℕ × Option ℕ
added_of a = (a.number.0, label_of a.label)

abbrev pub add_answer : Result Added AddRefusal → Result (ℕ × Option ℕ) AddRefusal
add_answer r = map_ok added_of r

-- a rule by its number
abbrev pub rule_number : Option RuleNumber → Option ℕ
rule_number o = option_map (λ (r : RuleNumber). r.0) o
