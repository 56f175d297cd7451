-- What an entered node must pass, and what a push does to the lists.
use Rattle.std.specs.Prelude.{ℕ, Bool, true, false, cond, not, ◌&&◌, ◌||◌, List, [], ◌∷◌, ◌++◌, length, Some, None, Ok, Err, Option, Result, ◌==◌, nat_lt}
use Rattle.std.specs.List.{slice_get}
use Rattle.grammar.specs.Lists.{OperatorOf}
use Rattle.covers.specs.Nodes.{Node, operator, kids, all_kids}
use Rattle.nodes.specs.declared.NodeRefusal.{NodeRefusal}
use Rattle.nodes.specs.declared.NodeRefusal.TheVariants.{Operator, Kids, Kid, Full}

-- the number of a refusal
abbrev pub refusal_number : NodeRefusal → ℕ
refusal_number Operator = 24
refusal_number Kids = 25
refusal_number Kid = 26
refusal_number Full = 27

-- k is one of the numbers
abbrev pub among : ℕ → List ℕ → Bool
among k [] = false
among k (x ∷ xs) = k == x || among k xs

-- node k is in the list, and no kid yet
abbrev pub free : List Node → ℕ → Bool
free ns k = nat_lt k (length ns) && not (among k (all_kids ns))

-- each of the numbers is free, and none is given twice
abbrev pub all_free : List Node → List ℕ → Bool
all_free ns [] = true
all_free ns (k ∷ ks) = (free ns k && not (among k ks)) && all_free ns ks

-- the checks of a node whose operator is declared, or is not
abbrev pub check_declared : Option OperatorOf → ℕ → List Node → List ℕ → Option NodeRefusal
check_declared None most ns ks = Some Operator
check_declared (Some o) most ns ks =
    cond (o.kids == length ks) (cond (all_free ns ks) (cond (nat_lt (length ns) most) None (Some Full)) (Some Kid)) (Some Kids)

-- why x may not be entered into a list ns that takes up to most nodes, or none: its operator is not declared; else the operator takes
-- another count of kids; else a kid is not free or given twice; else the list is full
abbrev pub check_node : List OperatorOf → ℕ → List Node → Node → Option NodeRefusal
check_node ops most ns x = check_declared (slice_get ops (operator x.top)) most ns (kids x.top)

-- the answer of a check
abbrev pub check_answer : Option NodeRefusal → Result (Unit {0}) NodeRefusal
check_answer None = Ok tt
check_answer (Some e) = Err e

-- each of the numbers is below n
abbrev pub all_below : ℕ → List ℕ → Bool
all_below n [] = true
all_below n (k ∷ ks) = nat_lt k n && all_below n ks

-- whether a push of x appends it: the list is not full, and each kid's number is below the new node's
abbrev pub pushes : ℕ → List Node → Node → Bool
pushes most ns x = nat_lt (length ns) most && all_below (length ns) (kids x.top)

-- what a push of x answers: the number of the new node, or none
abbrev pub push_answer : ℕ → List Node → Node → Option ℕ
push_answer most ns x = cond (pushes most ns x) (Some (length ns)) None

-- the nodes after a push of x
abbrev pub push_nodes : ℕ → List Node → Node → List Node
push_nodes most ns x = cond (pushes most ns x) (ns ++ x ∷ []) ns

-- the labels after a push of x with the label l
abbrev pub push_labels : ℕ → List Node → Node → List (Option ℕ) → Option ℕ → List (Option ℕ)
push_labels most ns x ls l = cond (pushes most ns x) (ls ++ l ∷ []) ls
