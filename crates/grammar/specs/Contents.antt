-- What declarations mean: their lists.
use Rattle.std.specs.Prelude.{vec_items}
use Rattle.grammar.specs.Lists.{Lists}
use Rattle.grammar.specs.Views.{lists_of}
use Rattle.grammar.specs.declared.declarations.Declarations.{Declarations}

abbrev pub declared_lists : {C : Type 0} → Declarations C → Lists C
declared_lists d = lists_of (vec_items d.operators) (vec_items d.nonterminals) (vec_items d.rules)
