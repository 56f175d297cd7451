-- The lines of a machine file: what each says, field by field from the left, or why it is refused.
use Rattle.std.specs.Prelude.{ℕ, Bool, true, false, cond, not, List, [], ◌∷◌, length, Some, None, Ok, Err, codes, Option, Result, ◌==◌, nat_lt}
use Rattle.std.specs.Option.{ok_or}
use Rattle.std.specs.Str.{bytes_eq}
use Rattle.name.specs.Outcomes.{and_then, map_err}
use Rattle.field.specs.Bytes.{split_at}
use Rattle.field.specs.Forms.{name_form, kids_form, cost_form, cycles_form, kid_form}
use Rattle.field.specs.Lines.{take_by}
use Rattle.field.specs.Readers.{rest}
use Rattle.field.specs.declared.fault.FieldFault.{FieldFault}
use Rattle.grammar.specs.Drafting.{refuse_if}
use Rattle.grammar.specs.Lists.{Text}
use Rattle.fault.specs.Faults.{too_long, unknown, miscounted, field_fault}
use Rattle.fault.specs.declared.LineFault.{LineFault}
use Rattle.entry.specs.declared.header.Make.{Make}
use Rattle.entry.specs.declared.header.Make.TheVariants.{Bytes, Cycles}
use Rattle.entry.specs.declared.header.Labelling.{Labelling}
use Rattle.entry.specs.declared.header.Labelling.TheVariants.{Table, Plain}
use Rattle.entry.specs.declared.kind.Kind.{Kind}
use Rattle.entry.specs.declared.kind.Kind.TheVariants.{Operator, Nonterminal, Base, Chain}

-- the longest line, in bytes
abbrev pub longest_line : ℕ
longest_line = 8192

-- the kind of line that a word begins
abbrev pub kind_of : Text → Option Kind
kind_of x =
    cond (bytes_eq x (codes "op")) (Some Operator)
    (cond (bytes_eq x (codes "nt")) (Some Nonterminal)
    (cond (bytes_eq x (codes "base")) (Some Base)
    (cond (bytes_eq x (codes "chain")) (Some Chain)
    None)))

-- how many fields a line of a kind has
abbrev pub width : Kind → ℕ
width Operator = 3
width Nonterminal = 2
width Base = 8
width Chain = 6

-- what a line says
pub data EntryOf : Type 0 where
  operator : (name : Text) (kids : ℕ) → EntryOf
  nonterminal : (name : Text) → EntryOf
  base : (left op : Text) (first second : Option Text) (cycles bytes : ℕ) (mnemonic : Text) → EntryOf
  chain : (left source : Text) (cycles bytes : ℕ) (mnemonic : Text) → EntryOf

-- NAME,KIDS
abbrev pub operator_fields : List Text → Result EntryOf FieldFault
operator_fields fs =
    and_then (take_by name_form 2 fs) (λ name.
    and_then (take_by kids_form 3 (rest fs)) (λ kids.
    Ok (operator name kids)))

-- NAME
abbrev pub nonterminal_fields : List Text → Result EntryOf FieldFault
nonterminal_fields fs = and_then (take_by name_form 2 fs) (λ name. Ok (nonterminal name))

-- LEFT,OP,KID1,KID2,CYCLES,BYTES,MNEMONIC
abbrev pub base_fields : List Text → Result EntryOf FieldFault
base_fields fs =
    and_then (take_by name_form 2 fs) (λ left.
    and_then (take_by name_form 3 (rest fs)) (λ op.
    and_then (take_by kid_form 4 (rest (rest fs))) (λ first.
    and_then (take_by kid_form 5 (rest (rest (rest fs)))) (λ second.
    and_then (take_by cycles_form 6 (rest (rest (rest (rest fs))))) (λ cycles.
    and_then (take_by cost_form 7 (rest (rest (rest (rest (rest fs)))))) (λ bytes.
    and_then (take_by name_form 8 (rest (rest (rest (rest (rest (rest fs))))))) (λ mnemonic.
    Ok (base left op first second cycles bytes mnemonic))))))))

-- LEFT,SOURCE,CYCLES,BYTES,MNEMONIC
abbrev pub chain_fields : List Text → Result EntryOf FieldFault
chain_fields fs =
    and_then (take_by name_form 2 fs) (λ left.
    and_then (take_by name_form 3 (rest fs)) (λ source.
    and_then (take_by cycles_form 4 (rest (rest fs))) (λ cycles.
    and_then (take_by cost_form 5 (rest (rest (rest fs)))) (λ bytes.
    and_then (take_by name_form 6 (rest (rest (rest (rest fs))))) (λ mnemonic.
    Ok (chain left source cycles bytes mnemonic))))))

abbrev pub kind_fields : Kind → List Text → Result EntryOf FieldFault
kind_fields Operator fs = operator_fields fs
kind_fields Nonterminal fs = nonterminal_fields fs
kind_fields Base fs = base_fields fs
kind_fields Chain fs = chain_fields fs

-- a line of a kind with n fields, of which fs follow the first
abbrev pub kind_entry : Option Kind → ℕ → List Text → Result EntryOf LineFault
kind_entry None n fs = Err (unknown 1)
kind_entry (Some k) n fs = refuse_if (not (n == width k)) miscounted (map_err field_fault (kind_fields k fs))

abbrev pub fields_entry : List Text → Result EntryOf LineFault
fields_entry [] = Err (unknown 1)
fields_entry (x ∷ fs) = kind_entry (kind_of x) (length (x ∷ fs)) fs

-- what a line says
abbrev pub entry_of : Text → Result EntryOf LineFault
entry_of xs = refuse_if (nat_lt longest_line (length xs)) too_long (fields_entry (split_at 44 xs))

-- the first of some fields; empty where there is none
abbrev pub word : List Text → Text
word [] = []
word (x ∷ fs) = x

abbrev pub some_left : List Text → Bool
some_left [] = false
some_left (x ∷ fs) = true

abbrev pub make_of : Text → Option Make
make_of x = cond (bytes_eq x (codes "bytes")) (Some Bytes) (cond (bytes_eq x (codes "cycles")) (Some Cycles) None)

abbrev pub labelling_of : Text → Option Labelling
labelling_of x = cond (bytes_eq x (codes "table")) (Some Table) (cond (bytes_eq x (codes "plain")) (Some Plain) None)

-- cost,MAKE,LABELLING: the first of the three fields that is wrong or missing is refused, then a fourth
abbrev pub header_fields : List Text → Result (Make × Labelling) LineFault
header_fields fs =
    refuse_if (not (bytes_eq (word fs) (codes "cost"))) (unknown 1)
    (and_then (ok_or (make_of (word (rest fs))) (unknown 2)) (λ make.
    and_then (ok_or (labelling_of (word (rest (rest fs)))) (unknown 3)) (λ labelling.
    refuse_if (some_left (rest (rest (rest fs)))) miscounted (Ok (make, labelling)))))

-- what the first line with content says
abbrev pub header_of : Text → Result (Make × Labelling) LineFault
header_of xs = refuse_if (nat_lt longest_line (length xs)) too_long (header_fields (split_at 44 xs))
