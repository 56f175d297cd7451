-- What a draft and a grammar mean: their lists.
pub use Rattle.grammar.specs.Contents.{declared_lists}
use Rattle.grammar.specs.Lists.{Lists}
use Rattle.grammar.specs.declared.draft.Draft.{Draft}
use Rattle.grammar.specs.declared.grammar.Grammar.{Grammar}

abbrev pub draft_lists : {C : Type 0} {cost eq : _} → Draft C cost eq → Lists C
draft_lists d = declared_lists d.declarations

abbrev pub grammar_lists : {C : Type 0} {cost eq : _} → Grammar C cost eq → Lists C
grammar_lists g = declared_lists g.declarations
