-- What `inspect` prints of a machine file.
use Rattle.std.specs.Prelude.{ℕ, ◌+◌, List, [], ◌∷◌, ◌++◌, map, length, ℤ, Some, None, Ok, Err, Result}
use Rattle.std.specs.List.{slice_get}
use Rattle.std.specs.Option.{unwrap_or}
use Rattle.cost.specs.declared.Count.{Count}
use Rattle.cost.specs.declared.Pair.{Pair}
use Rattle.grammar.specs.Lists.{Text, OperatorOf, FormOf, chain, base0, base1, base2, RuleOf, Lists}
use Rattle.fault.specs.Faults.{refusal_number}
use Rattle.fault.specs.declared.MachineFault.{MachineFault}
use Rattle.fault.specs.declared.Refusal.TheVariants.{File}
use Rattle.machine.specs.Files.{MachineOf, bytes_machine, cycles_machine, in_file, machine_of}
use Rattle.listing.specs.Lines.{op_line, nt_line, base_line, chain_line, counts_line, fault_line}
use Rattle.listing.specs.declared.Source.TheVariants.{Machine}

-- a line with its line feed
abbrev pub ended : Text → Text
ended line = line ++ 10 ∷ []

-- the lines that f makes of the items, of which the first has the number i
unfoldable pub lines_text : {A : Type 0} → (ℕ → A → Text) → ℕ → List A → Text
lines_text f i [] = []
lines_text f i (x ∷ xs) = ended (f i x) ++ lines_text f (i + 1) xs

-- the name of a number; empty where there is none
abbrev pub name_at : List Text → ℕ → Text
name_at names i = unwrap_or (slice_get names i) []

abbrev pub operator_name : {C : Type 0} → Lists C → ℕ → Text
operator_name G o = name_at (map (λ (x : OperatorOf). x.name) G.operators) o

abbrev pub nonterminal_name : {C : Type 0} → Lists C → ℕ → Text
nonterminal_name G n = name_at G.nonterminals n

abbrev pub operator_line : ℕ → OperatorOf → Text
operator_line n x = op_line n x.name x.kids

-- the line of a rule of this form, with the name of its left side and the numbers of its cost
abbrev pub form_line : {C : Type 0} → Lists C → FormOf → ℕ → Text → List ℤ → Text → Text
form_line G (chain s) n left cost mnemonic = chain_line n left (nonterminal_name G s) cost mnemonic
form_line G (base0 o) n left cost mnemonic = base_line n left (operator_name G o) None None cost mnemonic
form_line G (base1 o a) n left cost mnemonic = base_line n left (operator_name G o) (Some (nonterminal_name G a)) None cost mnemonic
form_line G (base2 o a b) n left cost mnemonic = base_line n left (operator_name G o) (Some (nonterminal_name G a)) (Some (nonterminal_name G b)) cost mnemonic

abbrev pub rule_line : {C : Type 0} → (C → List ℤ) → Lists C → ℕ → RuleOf C → Text
rule_line figures G n ρ = form_line G ρ.form n (nonterminal_name G ρ.left) (figures ρ.cost) ρ.mnemonic

-- a grammar: operators and nonterminals numbered from 0, rules from 1, and how many there are of each
abbrev pub grammar_text : {C : Type 0} → (C → List ℤ) → Lists C → Text
grammar_text figures G =
    lines_text operator_line 0 G.operators
    ++ (lines_text nt_line 0 G.nonterminals
    ++ (lines_text (rule_line figures G) 1 G.rules
    ++ ended (counts_line (length G.operators) (length G.nonterminals) (length G.rules))))

-- the fault of a machine file
abbrev pub fault_text : MachineFault → Text
fault_text e = ended (fault_line Machine e.line e.field (refusal_number e.refusal))

-- the numbers that are printed of a cost, the most important first
abbrev pub bytes_figures : Count → List ℤ
bytes_figures c = c.value ∷ []

abbrev pub cycles_figures : Pair Count Count → List ℤ
cycles_figures c = c.first.value ∷ c.second.value ∷ []

abbrev pub machine_text : MachineOf → Text
machine_text (bytes_machine labelling G) = grammar_text bytes_figures G
machine_text (cycles_machine labelling G) = grammar_text cycles_figures G

-- a machine, or why there is none
abbrev pub outcome_text : Result MachineOf MachineFault → Text
outcome_text (Ok m) = machine_text m
outcome_text (Err e) = fault_text e

-- what is printed of a file of these bytes
abbrev pub inspected : Text → Text
inspected xs = outcome_text (machine_of xs)

-- what is printed of a file that cannot be read
abbrev pub unreadable : Text
unreadable = fault_text (in_file File)
