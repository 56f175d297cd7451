-- What entering a node into a holder's list does.
use Rattle.std.specs.Prelude.{◌≡◌, ℕ, List, [], ◌∷◌, ◌++◌, length, Some, None, Ok, Err, Option, Result}
use Rattle.name.specs.Outcomes.{map_ok}
use Rattle.grammar.specs.Lists.{OperatorOf}
use Rattle.covers.specs.Nodes.{Node, Listed}
use Rattle.nodes.specs.declared.NodeNumber.{NodeNumber}
use Rattle.nodes.specs.declared.NodeRefusal.{NodeRefusal}
use Rattle.nodes.specs.declared.Nodes.{Nodes}
use Rattle.nodes.specs.Checks.{check_node}
use Rattle.nodes.specs.Meaning.{most_of, nodes_of, labels_of}

-- the answer to a node that is refused, or is not
abbrev pub enter_answer : Option NodeRefusal → ℕ → Result ℕ NodeRefusal
enter_answer None n = Ok n
enter_answer (Some e) n = Err e

-- a list with one more at its end, where nothing is refused
abbrev pub entered : {A : Type 0} → Option NodeRefusal → List A → A → List A
entered None xs x = xs ++ x ∷ []
entered (Some e) xs x = xs

-- From the list v, the list u once x is entered with the label l, and the answer.
pub record Enters (ops : List OperatorOf) (v : Nodes) (x : Node) (l : Option ℕ) (r : Result NodeNumber NodeRefusal) (u : Nodes) : Type 0 where
  pub answer : map_ok (λ (n : NodeNumber). n.0) r ≡ enter_answer (check_node ops (most_of v) (nodes_of v) x) (length (nodes_of v))
  pub nodes : nodes_of u ≡ entered (check_node ops (most_of v) (nodes_of v) x) (nodes_of v) x
  pub labels : labels_of u ≡ entered (check_node ops (most_of v) (nodes_of v) x) (labels_of v) l
  pub listed : Listed ops (nodes_of u)
