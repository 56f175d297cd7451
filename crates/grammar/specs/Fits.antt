-- Whether the rules of a grammar fit its operators and nonterminals, as a test.
use Rattle.std.specs.Prelude.{ℕ, Bool, true, false, not, ◌&&◌, List, [], ◌∷◌, Some, None, Option, ◌==◌, nat_le, nat_lt}
use Rattle.std.specs.List.{slice_get}
use Rattle.grammar.specs.Lists.{OperatorOf, FormOf, chain, base0, base1, base2, RuleOf}

abbrev pub has_kids : ℕ → Option OperatorOf → Bool
has_kids k None = false
has_kids k (Some x) = x.kids == k

-- o is the number of an operator that takes k kids
abbrev pub takes : List OperatorOf → ℕ → ℕ → Bool
takes ops o k = has_kids k (slice_get ops o)

-- the parts of a form are declared, its kids fit its operator, and a chain rule's source is not the left side
abbrev pub form_fits : List OperatorOf → ℕ → ℕ → FormOf → Bool
form_fits ops n left (chain s) = nat_lt s n && not (s == left)
form_fits ops n left (base0 o) = takes ops o 0
form_fits ops n left (base1 o a) = takes ops o 1 && nat_lt a n
form_fits ops n left (base2 o a b) = takes ops o 2 && (nat_lt a n && nat_lt b n)

abbrev pub rule_fits : {C : Type 0} → List OperatorOf → ℕ → RuleOf C → Bool
rule_fits ops n ρ = nat_lt ρ.left n && form_fits ops n ρ.left ρ.form

-- every rule fits
unfoldable pub rules_fit : {C : Type 0} → List OperatorOf → ℕ → List (RuleOf C) → Bool
rules_fit ops n [] = true
rules_fit ops n (ρ ∷ ρs) = rule_fits ops n ρ && rules_fit ops n ρs

-- no operator takes over two kids
unfoldable pub kids_fit : List OperatorOf → Bool
kids_fit [] = true
kids_fit (x ∷ xs) = nat_le x.kids 2 && kids_fit xs
