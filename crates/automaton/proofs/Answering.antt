-- What the checks and the list of nodes answer to an automaton.
use Rattle.std.proofs.Common.{◌≡◌, ℕ, List, Some, None, Ok, Err, Option, Result, sym, ap, ◌∙◌, arith}
use Rattle.std.specs.Option.{ok_or}
use Rattle.grammar.specs.Lists.{OperatorOf}
use Rattle.covers.proofs.Relaxing.{some_is, none_some}
use Rattle.nodes.specs.declared.Node.{Node as CodeNode}
use Rattle.nodes.specs.declared.NodeNumber.{NodeNumber}
use Rattle.nodes.specs.declared.NodeRefusal.{NodeRefusal}
use Rattle.nodes.specs.Checks.{check_node, check_answer}
use Rattle.nodes.specs.Meaning.{nodes_of}
use Rattle.nodes.specs.Views.{node_of, number_of}
use Rattle.nodes.proofs.Right.{check_ok, check_refused}
use Rattle.automaton.specs.declared.Automaton.{Automaton}
use Rattle.automaton.specs.Histories.{History, open_nodes}
use Rattle.automaton.specs.Meaning.{grammar_of, most_nodes}

module _ {C : Type 0} {cost eq keyed : _} (a : Automaton C cost eq keyed) (h : History) (x : CodeNode) (ops : List OperatorOf) (same : ops ≡ (grammar_of a).operators) (nodes : nodes_of a.nodes ≡ open_nodes h) where
  abbrev checked : Option NodeRefusal
  checked = check_node (grammar_of a).operators (most_nodes a) (open_nodes h) (node_of x)

  here : (r : Result (Unit {0}) NodeRefusal) → r ≡ check_answer (check_node ops (most_nodes a) (nodes_of a.nodes) (node_of x)) → r ≡ check_answer checked
  here r e = e ∙ (λ i. check_answer (check_node (same i) (most_nodes a) (nodes i) (node_of x)))

  pub check_some : (f : NodeRefusal) → Err f ≡ check_answer (check_node ops (most_nodes a) (nodes_of a.nodes) (node_of x)) → checked ≡ Some f
  check_some f e = check_refused checked f (sym (here (Err f) e))

  pub check_none : Ok tt ≡ check_answer (check_node ops (most_nodes a) (nodes_of a.nodes) (node_of x)) → checked ≡ None
  check_none e = check_ok checked (sym (here (Ok tt) e))

pub number_is : (o : Option NodeNumber) (e : NodeRefusal) (n : NodeNumber) (k : ℕ) → Ok n ≡ ok_or o e → number_of o ≡ Some k → n.0 ≡ k
number_is None e n k h q = absurd (none_some k q)
number_is (Some x) e n k h q = (let s : n ≡ x = cc in ap (λ (z : NodeNumber). z.0) s ∙ some_is x.0 k q)

pub never_full : (o : Option NodeNumber) (e f : NodeRefusal) (k : ℕ) → Err f ≡ ok_or o e → number_of o ≡ Some k → ⊥
never_full None e f k h q = none_some k q
never_full (Some x) e f k h q = (let z : ◌≡◌ {A = ℕ} 0 1 = cc in omega arith)
