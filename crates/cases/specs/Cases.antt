-- The example machine file, the machine that reading it gives, and eight cases of it.
use Rattle.std.specs.Prelude.{◌≡◌, List, [], ◌∷◌, ◌++◌, Some, None, Ok, codes}
use Rattle.cost.specs.Counts.{count_model}
use Rattle.covers.specs.Example.{Cases, machine, bytes, cycles, c0, r0, label_in}
use Rattle.entry.specs.declared.header.Labelling.TheVariants.{Table}
use Rattle.form.specs.Numbers.{cycles_of}
use Rattle.grammar.specs.Lists.{Text}
use Rattle.label.specs.declared.refusals.NoRoom.TheVariants.{Rows}
use Rattle.machine.specs.Files.{bytes_machine, cycles_machine, machine_of}
use Rattle.states.specs.Room.{lack}

-- lines, each ended by a line feed
abbrev pub file : List Text → Text
file [] = []
file (x ∷ xs) = x ++ (10 ∷ file xs)

-- the lines after the first
abbrev pub others : List Text
others =
    codes "op,CNST,0" ∷
    codes "op,REG,0" ∷
    codes "op,ADD,2" ∷
    codes "op,LOAD,1" ∷
    codes "nt,reg" ∷
    codes "nt,imm" ∷
    codes "nt,addr" ∷
    codes "base,imm,CNST,-,-,0,0,const" ∷
    codes "base,reg,REG,-,-,0,0,reg" ∷
    codes "chain,reg,imm,1,2,li" ∷
    codes "base,reg,ADD,reg,reg,1,2,add" ∷
    codes "base,reg,ADD,reg,imm,1,3,addi" ∷
    codes "base,addr,ADD,reg,imm,0,0,off" ∷
    codes "chain,addr,reg,0,0,ptr" ∷
    codes "base,reg,LOAD,addr,-,2,2,ld" ∷
    []

abbrev pub in_bytes : Text
in_bytes = file (codes "cost,bytes,table" ∷ others)

abbrev pub in_cycles : Text
in_cycles = file (codes "cost,cycles,table" ∷ others)

pub record EightCases : Type 0 where
  -- the machine of the cases is the one that reading the example gives, in either make of cost
  pub read_in_bytes : machine_of in_bytes ≡ Ok (bytes_machine Table (machine bytes))
  pub read_in_cycles : machine_of in_cycles ≡ Ok (cycles_machine Table (machine cycles))
  -- rows, differences, rule numbers, labels, no cover, cycles, and small tables
  pub cases : Cases
  -- cycles of 2.4 count 2, and of 2.5 count 3
  pub below_half : cycles_of (codes "2.4") ≡ Some 2
  pub half : cycles_of (codes "2.5") ≡ Some 3
  -- with place for four keys and one row: CNST finds room and gets label 0, then REG lacks a place for its row, and a second CNST finds room
  -- and gets label 0
  pub room_for_first : lack count_model (machine bytes) 4 1 [] c0 ≡ None
  pub first_label : label_in (c0 ∷ []) c0 ≡ 0
  pub no_room_for_second_row : lack count_model (machine bytes) 4 1 (c0 ∷ []) r0 ≡ Some Rows
  pub room_for_first_again : lack count_model (machine bytes) 4 1 (c0 ∷ []) c0 ≡ None
  pub first_label_again : label_in (c0 ∷ c0 ∷ []) c0 ≡ 0
