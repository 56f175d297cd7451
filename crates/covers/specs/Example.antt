-- A small machine, and what the definitions say of it.
use Rattle.std.specs.Prelude.{◌≡◌, ℕ, ◌≢◌, List, [], ◌∷◌, length, replicate, ℤ, pos, negsuc, Some, None, Option, slice_set}
use Rattle.std.specs.declared.cmp.Ordering.TheVariants.{Greater}
use Rattle.cost.specs.Model.{Model}
use Rattle.cost.specs.Counts.{count, count_model}
use Rattle.cost.specs.Pairs.{pair, pair_model}
use Rattle.cost.specs.declared.Count.{Count}
use Rattle.cost.specs.declared.Pair.{Pair}
use Rattle.grammar.specs.Lists.{Text, OperatorOf, FormOf, chain, base0, base1, base2, RuleOf, Lists, Sealed}
use Rattle.covers.specs.Trees.{leaf, Tree, node0, node1, node2}
use Rattle.covers.specs.Ranks.{Rank, at, bases, rounds, least_cost}
use Rattle.covers.specs.Rows.{Row, row}
use Rattle.covers.specs.Steps.{Step, step, chosen, chosen_steps, total}
use Rattle.covers.specs.Held.{rows_held, keys_held, label}

abbrev pub operator : Text → ℕ → OperatorOf
operator name kids = record { name = name; kids = kids }

abbrev pub rule_of : {C : Type 0} → ℕ → FormOf → C → Text → RuleOf C
rule_of left form c mnemonic = record { left = left; form = form; cost = c; mnemonic = mnemonic }

-- the machine's names, as bytes
abbrev pub name_cnst_operator : Text
name_cnst_operator = 67 ∷ 78 ∷ 83 ∷ 84 ∷ []

abbrev pub name_reg_operator : Text
name_reg_operator = 82 ∷ 69 ∷ 71 ∷ []

abbrev pub name_add_operator : Text
name_add_operator = 65 ∷ 68 ∷ 68 ∷ []

abbrev pub name_load_operator : Text
name_load_operator = 76 ∷ 79 ∷ 65 ∷ 68 ∷ []

abbrev pub name_reg : Text
name_reg = 114 ∷ 101 ∷ 103 ∷ []

abbrev pub name_imm : Text
name_imm = 105 ∷ 109 ∷ 109 ∷ []

abbrev pub name_addr : Text
name_addr = 97 ∷ 100 ∷ 100 ∷ 114 ∷ []

abbrev pub name_const : Text
name_const = 99 ∷ 111 ∷ 110 ∷ 115 ∷ 116 ∷ []

abbrev pub name_li : Text
name_li = 108 ∷ 105 ∷ []

abbrev pub name_add : Text
name_add = 97 ∷ 100 ∷ 100 ∷ []

abbrev pub name_addi : Text
name_addi = 97 ∷ 100 ∷ 100 ∷ 105 ∷ []

abbrev pub name_off : Text
name_off = 111 ∷ 102 ∷ 102 ∷ []

abbrev pub name_ptr : Text
name_ptr = 112 ∷ 116 ∷ 114 ∷ []

abbrev pub name_ld : Text
name_ld = 108 ∷ 100 ∷ []

-- the machine, where a rule of so many cycles and bytes has the cost that f makes of them: the operators CNST, REG, ADD and LOAD, the
-- nonterminals reg, imm and addr, and eight rules
abbrev pub machine : {C : Type 0} → (ℕ → ℕ → C) → Lists C
machine f = record {
  operators = operator name_cnst_operator 0 ∷ operator name_reg_operator 0 ∷ operator name_add_operator 2 ∷ operator name_load_operator 1 ∷ [];
  nonterminals = name_reg ∷ name_imm ∷ name_addr ∷ [];
  rules =
      rule_of 1 (base0 0) (f 0 0) name_const ∷
      rule_of 0 (base0 1) (f 0 0) name_reg ∷
      rule_of 0 (chain 1) (f 1 2) name_li ∷
      rule_of 0 (base2 2 0 0) (f 1 2) name_add ∷
      rule_of 0 (base2 2 0 1) (f 1 3) name_addi ∷
      rule_of 2 (base2 2 0 1) (f 0 0) name_off ∷
      rule_of 2 (chain 0) (f 0 0) name_ptr ∷
      rule_of 0 (base1 3 2) (f 2 2) name_ld ∷
      [];
}

-- costs in bytes, and in cycles before bytes
abbrev pub bytes : ℕ → ℕ → Count
bytes c b = count (pos b)

abbrev pub cycles : ℕ → ℕ → Pair Count Count
cycles c b = pair (count (pos c)) (count (pos b))

abbrev pub cycles_model : Model (Pair Count Count)
cycles_model = pair_model count_model count_model

-- the machine's trees
abbrev pub CNST : ℤ → Tree
CNST p = node0 0 p

abbrev pub REG : ℤ → Tree
REG p = node0 1 p

abbrev pub ADD : Tree → Tree → Tree
ADD t u = node2 2 (pos 0) t u

abbrev pub LOAD : Tree → Tree
LOAD t = node1 3 (pos 0) t

abbrev pub c0 : Tree
c0 = CNST (pos 0)

abbrev pub r0 : Tree
r0 = REG (pos 0)

-- the row of a tree, its least cost and its chosen steps from a nonterminal, in bytes
abbrev pub row_in_bytes : Tree → Row Count
row_in_bytes t = row count_model (machine bytes) t

abbrev pub least_in_bytes : Tree → ℕ → Option Count
least_in_bytes t n = least_cost count_model (machine bytes) t n

abbrev pub steps_in_bytes : Tree → ℕ → Option (List Step)
steps_in_bytes t n = chosen_steps count_model (machine bytes) t n

-- an entry of a row: rule and cost above the least
abbrev pub entry_of : ℕ → ℕ → Option (ℕ × Count)
entry_of r c = Some (r, count (pos c))

-- the label of a node among accepted nodes, and the rows and keys held by these
abbrev pub label_in : List Tree → Tree → ℕ
label_in ts t = label count_model (machine bytes) ts t

abbrev pub rows_in : List Tree → ℕ
rows_in ts = length (rows_held count_model (machine bytes) ts)

abbrev pub keys_in : List Tree → ℕ
keys_in ts = length (keys_held count_model (machine bytes) ts)

-- the nodes of some trees in the order in which they are accepted
abbrev pub two_sums : List Tree
two_sums = r0 ∷ c0 ∷ ADD r0 c0 ∷ c0 ∷ c0 ∷ ADD c0 c0 ∷ []

abbrev pub load_and_sum : List Tree
load_and_sum = r0 ∷ LOAD r0 ∷ r0 ∷ r0 ∷ ADD r0 r0 ∷ []

-- the tree LOAD(ADD(REG=1,CNST=4)), and its nodes
abbrev pub loaded : Tree
loaded = LOAD (ADD (REG (pos 1)) (CNST (pos 4)))

abbrev pub loaded_nodes : List Tree
loaded_nodes = REG (pos 1) ∷ CNST (pos 4) ∷ ADD (REG (pos 1)) (CNST (pos 4)) ∷ loaded ∷ []

-- the rules in bytes with the third and the seventh exchanged, so that addr from reg comes before reg from imm
abbrev pub exchanged : List (RuleOf Count)
exchanged = slice_set (slice_set (machine bytes).rules 2 (rule_of 2 (chain 0) (bytes 0 0) name_ptr)) 6 (rule_of 0 (chain 1) (bytes 1 2) name_li)

-- the rank of CNST from addr after so many rounds over these rules
abbrev pub addr_after : ℕ → Option (Rank Count)
addr_after k = at (rounds count_model k (bases count_model (leaf 0) (replicate 3 None) exchanged) exchanged) 2

pub record Cases : Type 0 where
  -- the machine is a sealed grammar in both makes of cost
  pub sealed_bytes : Sealed count_model (machine bytes)
  pub sealed_cycles : Sealed cycles_model (machine cycles)
  -- CNST: reg 3/2, imm 1/0, addr 7/2
  pub constant : row_in_bytes c0 ≡ entry_of 3 2 ∷ entry_of 1 0 ∷ entry_of 7 2 ∷ []
  -- with rules 3 and 7 exchanged, addr has no cost after one round, and after two it has 2, with two chain rules
  pub one_round : addr_after 1 ≡ None
  pub two_rounds : addr_after 2 ≡ Some (count (pos 2), 2)
  -- REG: reg 2/0, imm none, addr 7/0
  pub register : row_in_bytes r0 ≡ entry_of 2 0 ∷ None ∷ entry_of 7 0 ∷ []
  -- ADD(REG,CNST): reg 5/3, imm none, addr 6/0
  pub sum : row_in_bytes (ADD r0 c0) ≡ entry_of 5 3 ∷ None ∷ entry_of 6 0 ∷ []
  pub sum_not_from_imm : chosen count_model (machine bytes) (ADD r0 c0) 1 ≡ None
  -- ADD(CNST,CNST) has the same row and label; its least cost from reg is 5 and not 3
  pub constants : row_in_bytes (ADD c0 c0) ≡ row_in_bytes (ADD r0 c0)
  pub constants_label : label_in two_sums (ADD c0 c0) ≡ label_in two_sums (ADD r0 c0)
  pub constants_cost : least_in_bytes (ADD c0 c0) 0 ≡ Some (count (pos 5))
  pub sum_cost : least_in_bytes (ADD r0 c0) 0 ≡ Some (count (pos 3))
  -- LOAD(REG) and ADD(REG,REG) have equal differences, the rules 8 and 4, and different labels
  pub load : row_in_bytes (LOAD r0) ≡ entry_of 8 0 ∷ None ∷ entry_of 7 0 ∷ []
  pub registers : row_in_bytes (ADD r0 r0) ≡ entry_of 4 0 ∷ None ∷ entry_of 7 0 ∷ []
  pub load_label : label_in load_and_sum (LOAD r0) ≢ label_in load_and_sum (ADD r0 r0)
  -- in cycles, ADD(REG,CNST) has reg at (1,3); and (2,1) − (1,5) = (1,−4), which is after zero
  pub sum_in_cycles : row cycles_model (machine cycles) (ADD r0 c0) ≡ Some (5, cycles 1 3) ∷ None ∷ Some (6, cycles 0 0) ∷ []
  pub difference : cycles_model.diff (cycles 2 1) (cycles 1 5) ≡ pair (count (pos 1)) (count (negsuc 3))
  pub after_zero : cycles_model.cmp (pair (count (pos 1)) (count (negsuc 3))) cycles_model.zero ≡ Greater
  -- with room for one row and four keys, CNST gets the label 0, REG finds its row not held and one row held, a second CNST gets 0
  pub first_label : label_in (c0 ∷ []) c0 ≡ 0
  pub one_row : rows_in (c0 ∷ []) ≡ 1
  pub one_key : keys_in (c0 ∷ []) ≡ 1
  pub not_held : rows_in (c0 ∷ r0 ∷ []) ≡ 2
  pub second_label : label_in (c0 ∷ c0 ∷ []) c0 ≡ 0
  pub still_one_row : rows_in (c0 ∷ c0 ∷ []) ≡ 1
  pub still_one_key : keys_in (c0 ∷ c0 ∷ []) ≡ 1
  -- the steps of LOAD(ADD(REG=1,CNST=4)) from reg, their total, and the rows and keys held by its nodes
  pub loaded_steps : steps_in_bytes loaded 0 ≡ Some (step 2 (pos 1) 0 0 ∷ step 1 (pos 4) 0 0 ∷ step 6 (pos 0) 1 2 ∷ step 8 (pos 0) 3 0 ∷ [])
  pub loaded_total : total count_model (machine bytes) (step 2 (pos 1) 0 0 ∷ step 1 (pos 4) 0 0 ∷ step 6 (pos 0) 1 2 ∷ step 8 (pos 0) 3 0 ∷ []) ≡ count (pos 2)
  pub loaded_rows : rows_in loaded_nodes ≡ 4
  pub loaded_keys : keys_in loaded_nodes ≡ 4
