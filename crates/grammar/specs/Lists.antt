-- What a grammar is: the lists of its operators, nonterminals and rules, each in the order of declaration.
use Rattle.std.specs.Prelude.{◌≡◌, ℕ, zero, suc, ◌<◌, ◌≤◌, ◌≢◌, List, length, Some, None, Option}
use Rattle.std.specs.declared.cmp.Ordering.TheVariants.{Less}
use Rattle.std.specs.List.{slice_get}
use Rattle.std.specs.Option.{option_map}
use Rattle.cost.specs.Model.{Model}

-- the bytes of a name
abbrev pub Text : Type 0
Text = List ℕ

-- an operator: its name, and how many kids it takes
pub record OperatorOf : Type 0 where
  pub name : Text
  pub kids : ℕ

-- what a rule rewrites its left side to: another nonterminal (a chain rule), or an operator with a nonterminal for each kid
-- (a base rule). Operators and nonterminals go by their numbers, which count from 0 as declared.
pub data FormOf : Type 0 where
  chain : (source : ℕ) → FormOf
  base0 : (op : ℕ) → FormOf
  base1 : (op kid : ℕ) → FormOf
  base2 : (op left right : ℕ) → FormOf

pub record RuleOf (C : Type 0) : Type 0 where
  pub left : ℕ
  pub form : FormOf
  pub cost : C
  pub mnemonic : Text

pub record Lists (C : Type 0) : Type 0 where
  pub operators : List OperatorOf
  pub nonterminals : List Text
  pub rules : List (RuleOf C)

-- the rule of a number: rules are numbered from 1 as added
abbrev pub numbered : {A : Type 0} → List A → ℕ → Option A
numbered xs zero = None
numbered xs (suc i) = slice_get xs i

abbrev pub rule : {C : Type 0} → Lists C → ℕ → Option (RuleOf C)
rule G r = numbered G.rules r

-- o is the number of an operator that takes k kids
abbrev pub Takes : List OperatorOf → ℕ → ℕ → Type 0
Takes ops o k = option_map (λ (x : OperatorOf). x.kids) (slice_get ops o) ≡ Some k

-- the parts of a form are declared, among the operators and n nonterminals, its kids fit its operator, and a chain rule's
-- source is not the left side
abbrev pub FormFits : List OperatorOf → ℕ → ℕ → FormOf → Type 0
FormFits ops n left (chain s) = (s < n) × (s ≢ left)
FormFits ops n left (base0 o) = Takes ops o 0
FormFits ops n left (base1 o a) = Takes ops o 1 × (a < n)
FormFits ops n left (base2 o a b) = Takes ops o 2 × (a < n) × (b < n)

-- what needs no make of cost: the limits, and that each rule's parts are declared and fit
pub record Declared {C : Type 0} (G : Lists C) : Type 0 where
  pub few_operators : length G.operators ≤ 64
  pub few_nonterminals : length G.nonterminals ≤ 32
  pub few_rules : length G.rules ≤ 256
  pub few_kids : (o : ℕ) (x : OperatorOf) → slice_get G.operators o ≡ Some x → x.kids ≤ 2
  pub left_declared : (r : ℕ) (ρ : RuleOf C) → rule G r ≡ Some ρ → ρ.left < length G.nonterminals
  pub form_fits : (r : ℕ) (ρ : RuleOf C) → rule G r ≡ Some ρ → FormFits G.operators (length G.nonterminals) ρ.left ρ.form

-- no rule's cost is before zero or weighs over 1,000
pub record Priced {C : Type 0} (m : Model C) (G : Lists C) : Type 0 where
  pub from_zero : (r : ℕ) (ρ : RuleOf C) → rule G r ≡ Some ρ → m.cmp ρ.cost m.zero ≢ Less
  pub light : (r : ℕ) (ρ : RuleOf C) → rule G r ≡ Some ρ → m.weight ρ.cost ≤ 1000

-- what holds of every sealed grammar: it is within the limits, each rule's parts are declared and fit, and so do the costs
pub record Sealed {C : Type 0} (m : Model C) (G : Lists C) : Type 0 where
  pub declared : Declared G
  pub priced : Priced m G
