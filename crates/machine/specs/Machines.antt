-- What the reader of machine files answers.
use Rattle.std.specs.Prelude.{◌≡◌, ◌≤◌, true, length, is_ok, Ok, Err, Result}
use Rattle.cost.specs.Counts.{count_model}
use Rattle.grammar.specs.Lists.{Sealed, Text}
use Rattle.grammar.specs.Meaning.{grammar_lists}
use Rattle.machine.specs.Files.{MachineOf, bytes_machine, cycles_machine, pairs, longest_file, lines_of, first_of}
use Rattle.fault.specs.declared.MachineFault.{MachineFault}
use Rattle.machine.specs.declared.machine.Machine.{Machine}
use Rattle.machine.specs.declared.machine.Machine.TheVariants.{Bytes, Cycles}
use Rattle.machine.specs.declared.machine.ReadError.{ReadError}
use Rattle.machine.specs.declared.machine.ReadError.TheVariants.{Memory, Fault}

abbrev pub machine_view : Machine → MachineOf
machine_view (Bytes labelling grammar) = bytes_machine labelling (grammar_lists grammar)
machine_view (Cycles labelling grammar) = cycles_machine labelling (grammar_lists grammar)

-- the grammar of a machine is sealed
abbrev pub SealedIn : Machine → Type 0
SealedIn (Bytes labelling grammar) = Sealed count_model (grammar_lists grammar)
SealedIn (Cycles labelling grammar) = Sealed pairs (grammar_lists grammar)

-- the error is the fault that is wanted, unless memory was wanting
abbrev pub Answers : {A : Type 0} → ReadError → Result A MachineFault → Type 0
Answers Memory r = Unit {0}
Answers (Fault e) r = Err e ≡ r

-- the reader's answer is what is wanted, unless memory was wanting
abbrev pub Reads : Result Machine ReadError → Result MachineOf MachineFault → Type 0
Reads (Ok m) r = Ok (machine_view m) ≡ r
Reads (Err e) r = Answers e r

-- a file is within the limit, and its first line with content passes: only then memory is asked for
abbrev pub Headed : Text → Type 0
Headed xs = (length xs ≤ longest_file) × (is_ok (first_of (lines_of xs)) ≡ true)
