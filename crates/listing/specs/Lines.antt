-- What each kind of line holds. A name is the list of its bytes.
use Rattle.std.specs.Prelude.{ℕ, List, [], ◌∷◌, map, ℤ, Some, None, codes, decimal, Option}
use Rattle.std.specs.Fmt.{signed_decimal}
use Rattle.listing.specs.declared.Source.{Source}
use Rattle.listing.specs.declared.Source.TheVariants.{Machine, Trees}
use Rattle.listing.specs.Fields.{with_field, with_fields, parted}

-- op,NUMBER,NAME,KIDS
abbrev pub op_line : ℕ → List ℕ → ℕ → List ℕ
op_line n name kids = parted (codes "op" ∷ decimal n ∷ name ∷ decimal kids ∷ [])

-- nt,NUMBER,NAME
abbrev pub nt_line : ℕ → List ℕ → List ℕ
nt_line n name = parted (codes "nt" ∷ decimal n ∷ name ∷ [])

-- a kid's nonterminal, or `-` where the operator has no such kid
abbrev pub kid_field : Option (List ℕ) → List ℕ
kid_field None = codes "-"
kid_field (Some name) = name

-- the line with a field for each number of the cost, and one for the mnemonic
abbrev pub with_cost : List ℕ → List ℤ → List ℕ → List ℕ
with_cost line cost mnemonic = with_field (with_fields line (map signed_decimal cost)) mnemonic

-- base,NUMBER,LEFT,OP,KID1,KID2,COST..,MNEMONIC
abbrev pub base_line : ℕ → List ℕ → List ℕ → Option (List ℕ) → Option (List ℕ) → List ℤ → List ℕ → List ℕ
base_line n left op first second cost mnemonic = with_cost (parted (codes "base" ∷ decimal n ∷ left ∷ op ∷ kid_field first ∷ kid_field second ∷ [])) cost mnemonic

-- chain,NUMBER,LEFT,SOURCE,COST..,MNEMONIC
abbrev pub chain_line : ℕ → List ℕ → List ℕ → List ℤ → List ℕ → List ℕ
chain_line n left source cost mnemonic = with_cost (parted (codes "chain" ∷ decimal n ∷ left ∷ source ∷ [])) cost mnemonic

-- counts,OPERATORS,NONTERMINALS,RULES
abbrev pub counts_line : ℕ → ℕ → ℕ → List ℕ
counts_line operators nonterminals rules = parted (codes "counts" ∷ decimal operators ∷ decimal nonterminals ∷ decimal rules ∷ [])

-- the letter of the file that a fault stands in
abbrev pub letter : Source → List ℕ
letter Machine = codes "g"
letter Trees = codes "t"

-- fault,FILE,LINE,FIELD,NUMBER
abbrev pub fault_line : Source → ℕ → ℕ → ℕ → List ℕ
fault_line source line field n = parted (codes "fault" ∷ letter source ∷ decimal line ∷ decimal field ∷ decimal n ∷ [])
