-- What the parts of a grammar's code say, as the lists have it.
use Rattle.std.specs.Prelude.{List, map}
use Rattle.name.specs.Names.{text}
use Rattle.grammar.specs.Lists.{Text, OperatorOf, FormOf, chain, base0, base1, base2, RuleOf, Lists}
use Rattle.grammar.specs.declared.parts.Operator.{Operator}
use Rattle.grammar.specs.declared.parts.Nonterminal.{Nonterminal}
use Rattle.grammar.specs.declared.parts.Form.{Form}
use Rattle.grammar.specs.declared.parts.Form.TheVariants.{Chain, Leaf, Unary, Binary}
use Rattle.grammar.specs.declared.parts.Rule.{Rule}

abbrev pub operator_of : Operator → OperatorOf
operator_of x = record { name = text x.name; kids = x.kids }

abbrev pub nonterminal_of : Nonterminal → Text
nonterminal_of x = text x.name

abbrev pub form_of : Form → FormOf
form_of (Chain source) = chain source.0
form_of (Leaf operator) = base0 operator.0
form_of (Unary operator kid) = base1 operator.0 kid.0
form_of (Binary operator left right) = base2 operator.0 left.0 right.0

abbrev pub rule_of : {C : Type 0} → Rule C → RuleOf C
rule_of x = record { left = x.left.0; form = form_of x.form; cost = x.cost; mnemonic = text x.mnemonic }

-- the lists that three lists of the code stand for
abbrev pub lists_of : {C : Type 0} → List Operator → List Nonterminal → List (Rule C) → Lists C
lists_of ops nts rules = record { operators = map operator_of ops; nonterminals = map nonterminal_of nts; rules = map rule_of rules }
