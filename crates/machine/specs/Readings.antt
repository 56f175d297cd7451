-- What reading a machine file means: a line is refused by the first of its checks that fails, a file is accepted where no check
-- of any line fails, and its fault is that of the first line that is refused.
use Rattle.std.specs.Prelude.{◌≡◌, ℕ, ◌+◌, ◌<◌, ◌≤◌, Bool, cond, not, ◌⊎◌, List, [], ◌∷◌, ◌++◌, length, Some, None, Ok, Err, codes, Option, Result, ◌==◌, nat_lt}
use Rattle.std.specs.Option.{option_map}
use Rattle.std.specs.Result.{result_err}
use Rattle.std.specs.Str.{bytes_eq}
use Rattle.cost.specs.Counts.{count_model}
use Rattle.cost.specs.Model.{Model}
use Rattle.entry.specs.Entries.{EntryOf, word, some_left, kind_of, width, entry_of, make_of, labelling_of, header_of, longest_line}
use Rattle.entry.specs.declared.header.Labelling.{Labelling}
use Rattle.entry.specs.declared.header.Make.{Make}
use Rattle.entry.specs.declared.header.Make.TheVariants.{Bytes, Cycles}
use Rattle.entry.specs.declared.kind.Kind.{Kind}
use Rattle.entry.specs.declared.kind.Kind.TheVariants.{Operator, Nonterminal, Base, Chain}
use Rattle.fault.specs.Faults.{too_long, unknown, miscounted, field_fault, draft_fault}
use Rattle.fault.specs.declared.LineFault.{LineFault}
use Rattle.fault.specs.declared.LineRefusal.TheVariants.{Unknown}
use Rattle.fault.specs.declared.MachineFault.{MachineFault}
use Rattle.fault.specs.declared.Refusal.TheVariants.{File, Line}
use Rattle.field.specs.Bytes.{split_at}
use Rattle.field.specs.Forms.{name_form, kids_form, cost_form, cycles_form, kid_form}
use Rattle.field.specs.Readers.{rest}
use Rattle.field.specs.declared.fault.FieldFault.{FieldFault}
use Rattle.grammar.specs.Drafting.{empty}
use Rattle.grammar.specs.Lists.{Text, Lists}
use Rattle.tariff.specs.Tariffs.{counted, cycles_first}
use Rattle.machine.specs.Files.{drafted, all_taken, in_line, in_file, lines_of, longest_file, pairs, MachineOf, bytes_machine, cycles_machine, machine_of}

-- a check answers the fault that it finds, or none; the first that finds one
abbrev pub first : {A : Type 0} → List (Option A) → Option A
first [] = None
first (None ∷ os) = first os
first (Some x ∷ os) = Some x

abbrev pub when : {A : Type 0} → Bool → A → Option A
when b x = cond b (Some x) None

abbrev pub unless : {A B : Type 0} → Option A → B → Option B
unless None x = Some x
unless (Some y) x = None

-- a field of the wrong form
abbrev pub check : {A : Type 0} → (ℕ → Text → Result A FieldFault) → ℕ → Text → Option LineFault
check form p x = option_map field_fault (result_err (form p x))

-- the forms of the fields of a line of each kind, from the second field on
abbrev pub kind_checks : Kind → List (ℕ → Text → Option LineFault)
kind_checks Operator = check name_form ∷ check kids_form ∷ []
kind_checks Nonterminal = check name_form ∷ []
kind_checks Base = check name_form ∷ check name_form ∷ check kid_form ∷ check kid_form ∷ check cycles_form ∷ check cost_form ∷ check name_form ∷ []
kind_checks Chain = check name_form ∷ check name_form ∷ check cycles_form ∷ check cost_form ∷ check name_form ∷ []

-- each check at its field, the first of which has the number p
abbrev pub at_fields : ℕ → List (ℕ → Text → Option LineFault) → List Text → List (Option LineFault)
at_fields p [] fs = []
at_fields p (c ∷ cs) [] = []
at_fields p (c ∷ cs) (x ∷ fs) = c p x ∷ at_fields (p + 1) cs fs

-- the number of fields, then the fields from the left
abbrev pub field_checks : Option Kind → List Text → List (Option LineFault)
field_checks None fs = []
field_checks (Some k) fs = when (not (length fs == width k)) miscounted ∷ at_fields 2 (kind_checks k) (rest fs)

-- the checks of a line in their order: its length, its kind, its number of fields, its fields
abbrev pub line_checks : Text → List (Option LineFault)
line_checks xs =
    when (nat_lt longest_line (length xs)) too_long
    ∷ unless (kind_of (word (split_at 44 xs))) (unknown 1)
    ∷ field_checks (kind_of (word (split_at 44 xs))) (split_at 44 xs)

-- the checks of the first line with content: its length, its three fields, then whether it has a fourth
abbrev pub header_checks : Text → List (Option LineFault)
header_checks xs =
    when (nat_lt longest_line (length xs)) too_long
    ∷ when (not (bytes_eq (word (split_at 44 xs)) (codes "cost"))) (unknown 1)
    ∷ unless (make_of (word (rest (split_at 44 xs)))) (unknown 2)
    ∷ unless (labelling_of (word (rest (rest (split_at 44 xs))))) (unknown 3)
    ∷ when (some_left (rest (rest (rest (split_at 44 xs))))) miscounted
    ∷ []

module _ {C : Type 0} (m : Model C) (price : ℕ → ℕ → C) where
  -- what the draft with the lists G refuses of what a line says
  abbrev pub draft_check : Lists C → Result EntryOf LineFault → Option LineFault
  draft_check G (Ok e) = option_map draft_fault (result_err (drafted m price G e))
  draft_check G (Err f) = None

  -- the checks of a line after the first, in their order: those of the line, then those of the draft
  abbrev pub all_checks : Lists C → Text → List (Option LineFault)
  all_checks G xs = line_checks xs ++ draft_check G (entry_of xs) ∷ []

  -- no check refuses the line, and what it says takes a draft from G to H
  pub record Takes (G : Lists C) (xs : Text) (H : Lists C) : Type 0 where
    pub passes : first (all_checks G xs) ≡ None
    pub entry : EntryOf
    pub says : entry_of xs ≡ Ok entry
    pub drafts : drafted m price G entry ≡ Ok H

  -- the lines, one after another, take a draft from G to H
  abbrev pub TakesAll : Lists C → List (ℕ × Text) → Lists C → Type 0
  TakesAll G [] H = G ≡ H
  TakesAll G (p ∷ ps) H = (K : Lists C) × Takes G p.1 K × TakesAll K ps H

  -- the lines before one are taken, and f is the first fault that a check finds in that one
  pub record FirstFault (G : Lists C) (ps : List (ℕ × Text)) (f : MachineFault) : Type 0 where
    pub before : List (ℕ × Text)
    pub number : ℕ
    pub line : Text
    pub after : List (ℕ × Text)
    pub lists : Lists C
    pub fault : LineFault
    pub stands : ps ≡ before ++ (number, line) ∷ after
    pub taken_before : TakesAll G before lists
    pub found : first (all_checks lists line) ≡ Some fault
    pub is : f ≡ in_line number fault

abbrev pub Iff : Type 0 → Type 0 → Type 0
Iff P Q = (P → Q) × (Q → P)

-- lines are accepted exactly where each is taken, and the fault is the first in the order of lines and of checks
pub record LinesMean {C : Type 0} (m : Model C) (price : ℕ → ℕ → C) (G : Lists C) (ps : List (ℕ × Text)) : Type 0 where
  pub accepted : (H : Lists C) → Iff (all_taken m price G ps ≡ Ok H) (TakesAll m price G ps H)
  pub first_fault : (f : MachineFault) → Iff (all_taken m price G ps ≡ Err f) (FirstFault m price G ps f)

-- the lines after a first line that asks for a make of cost and a labeller make this machine
abbrev pub Makes : Make × Labelling → List (ℕ × Text) → MachineOf → Type 0
Makes (Bytes, l) ps (bytes_machine k G) = (l ≡ k) × TakesAll count_model (λ cycles bytes. counted bytes) empty ps G
Makes (Bytes, l) ps (cycles_machine k G) = ⊥
Makes (Cycles, l) ps (bytes_machine k G) = ⊥
Makes (Cycles, l) ps (cycles_machine k G) = (l ≡ k) × TakesAll pairs cycles_first empty ps G

abbrev pub Faults : Make × Labelling → List (ℕ × Text) → MachineFault → Type 0
Faults (Bytes, l) ps f = FirstFault count_model (λ cycles bytes. counted bytes) empty ps f
Faults (Cycles, l) ps f = FirstFault pairs cycles_first empty ps f

-- a file is accepted: it is short enough, its first line with content passes its checks, and the others are taken
pub record Accepted (xs : Text) (made : MachineOf) : Type 0 where
  pub short : length xs ≤ longest_file
  pub number : ℕ
  pub line : Text
  pub others : List (ℕ × Text)
  pub lines : lines_of xs ≡ (number, line) ∷ others
  pub passes : first (header_checks line) ≡ None
  pub header : Make × Labelling
  pub says : header_of line ≡ Ok header
  pub makes : Makes header others made

-- a fault of the first line with content
pub record HeaderFault (ps : List (ℕ × Text)) (f : MachineFault) : Type 0 where
  pub number : ℕ
  pub line : Text
  pub others : List (ℕ × Text)
  pub fault : LineFault
  pub lines : ps ≡ (number, line) ∷ others
  pub found : first (header_checks line) ≡ Some fault
  pub is : f ≡ in_line number fault

-- a fault of a later line
pub record LaterFault (ps : List (ℕ × Text)) (f : MachineFault) : Type 0 where
  pub number : ℕ
  pub line : Text
  pub others : List (ℕ × Text)
  pub lines : ps ≡ (number, line) ∷ others
  pub passes : first (header_checks line) ≡ None
  pub header : Make × Labelling
  pub says : header_of line ≡ Ok header
  pub faults : Faults header others f

-- the first fault of a file: its size, that it has no content, its first line, a later line
abbrev pub Refused : Text → MachineFault → Type 0
Refused xs f =
    ((longest_file < length xs) × (f ≡ in_file File))
    ⊎ ((length xs ≤ longest_file) × (((lines_of xs ≡ []) × (f ≡ in_file (Line Unknown))) ⊎ (HeaderFault (lines_of xs) f ⊎ LaterFault (lines_of xs) f)))

-- what reading a file means
pub record Reading (xs : Text) : Type 0 where
  pub accepted : (made : MachineOf) → Iff (machine_of xs ≡ Ok made) (Accepted xs made)
  pub first_fault : (f : MachineFault) → Iff (machine_of xs ≡ Err f) (Refused xs f)
