-- A whole machine file: its lines with content are taken one by one, up to the first fault.
use Rattle.std.specs.Prelude.{ℕ, ◌+◌, List, [], ◌∷◌, length, Ok, Err, Result, nat_lt}
use Rattle.cost.specs.Counts.{count_model}
use Rattle.cost.specs.Model.{Model}
use Rattle.cost.specs.Pairs.{pair_model}
use Rattle.cost.specs.declared.Count.{Count}
use Rattle.cost.specs.declared.Pair.{Pair}
use Rattle.name.specs.Outcomes.{and_then, map_ok, map_err}
use Rattle.field.specs.Bytes.{split_at}
use Rattle.grammar.specs.Drafting.{refuse_if, empty, declare_operator, declare_nonterminal, add_base, add_chain}
use Rattle.grammar.specs.Lists.{Text, Lists}
use Rattle.grammar.specs.declared.refusal.DraftRefusal.{DraftRefusal}
use Rattle.tariff.specs.Tariffs.{counted, cycles_first}
use Rattle.entry.specs.Entries.{EntryOf, operator, nonterminal, base, chain, entry_of, header_of}
use Rattle.fault.specs.Faults.{draft_fault}
use Rattle.fault.specs.declared.LineFault.{LineFault}
use Rattle.fault.specs.declared.LineRefusal.TheVariants.{Unknown}
use Rattle.fault.specs.declared.MachineFault.{MachineFault}
use Rattle.fault.specs.declared.Refusal.{Refusal}
use Rattle.fault.specs.declared.Refusal.TheVariants.{File, Line}
use Rattle.entry.specs.declared.header.Make.{Make}
use Rattle.entry.specs.declared.header.Make.TheVariants.{Bytes, Cycles}
use Rattle.entry.specs.declared.header.Labelling.{Labelling}

-- the longest file, in bytes
abbrev pub longest_file : ℕ
longest_file = 32768

-- the parts that are not empty, each with its number; the first has the number n
unfoldable pub numbered : ℕ → List Text → List (ℕ × Text)
numbered n [] = []
numbered n ([] ∷ ps) = numbered (n + 1) ps
numbered n ((x ∷ xs) ∷ ps) = (n, x ∷ xs) ∷ numbered (n + 1) ps

-- the lines with content, each with its number: a line feed ends a line, and the last may lack it
abbrev pub lines_of : Text → List (ℕ × Text)
lines_of xs = numbered 1 (split_at 10 xs)

-- what an entry does to the lists of a draft
abbrev pub drafted : {C : Type 0} → Model C → (ℕ → ℕ → C) → Lists C → EntryOf → Result (Lists C) DraftRefusal
drafted m price G (operator name kids) = declare_operator G name kids
drafted m price G (nonterminal name) = declare_nonterminal G name
drafted m price G (base left op first second cycles bytes mnemonic) = add_base m G left op first second (price cycles bytes) mnemonic
drafted m price G (chain left source cycles bytes mnemonic) = add_chain m G left source (price cycles bytes) mnemonic

-- what a line does to the lists of a draft
abbrev pub taken : {C : Type 0} → Model C → (ℕ → ℕ → C) → Lists C → Text → Result (Lists C) LineFault
taken m price G xs = and_then (entry_of xs) (λ e. map_err draft_fault (drafted m price G e))

-- a fault within the line of a number
abbrev pub in_line : ℕ → LineFault → MachineFault
in_line n e = record { line = n; field = e.field; refusal = e.refusal }

-- the lists after all lines, or the first fault
unfoldable pub all_taken : {C : Type 0} → Model C → (ℕ → ℕ → C) → Lists C → List (ℕ × Text) → Result (Lists C) MachineFault
all_taken m price G [] = Ok G
all_taken m price G (p ∷ ps) = and_then (map_err (in_line p.0) (taken m price G p.1)) (λ H. all_taken m price H ps)

-- a machine: the labeller that it is meant for, and the lists of its grammar in its make of cost
pub data MachineOf : Type 0 where
  bytes_machine : Labelling → Lists Count → MachineOf
  cycles_machine : Labelling → Lists (Pair Count Count) → MachineOf

abbrev pub pairs : Model (Pair Count Count)
pairs = pair_model count_model count_model

-- the lines after the first, in the make of cost that the first asks for
abbrev pub machine_in : Make × Labelling → List (ℕ × Text) → Result MachineOf MachineFault
machine_in (Bytes, l) ps = map_ok (bytes_machine l) (all_taken count_model (λ cycles bytes. counted bytes) empty ps)
machine_in (Cycles, l) ps = map_ok (cycles_machine l) (all_taken pairs cycles_first empty ps)

-- a fault of the whole file
abbrev pub in_file : Refusal → MachineFault
in_file e = record { line = 0; field = 0; refusal = e }

-- the first line with content, and the lines after it; a file has such a line
abbrev pub first_of : List (ℕ × Text) → Result ((Make × Labelling) × List (ℕ × Text)) MachineFault
first_of [] = Err (in_file (Line Unknown))
first_of (p ∷ ps) = map_ok (λ h. (h, ps)) (map_err (in_line p.0) (header_of p.1))

-- what a machine file says
abbrev pub machine_of : Text → Result MachineOf MachineFault
machine_of xs = refuse_if (nat_lt longest_file (length xs)) (in_file File) (and_then (first_of (lines_of xs)) (λ f. machine_in f.0 f.1))
