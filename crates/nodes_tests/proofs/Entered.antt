-- Entering a node that is refused, and one that is not.
use Rattle.std.proofs.Common.{◌≡◌, ℕ, List, length, Some, None, Ok, Option, Result, sym, ap, subst}
use Rattle.std.specs.Option.{ok_or}
use Rattle.name.specs.Outcomes.{map_ok}
use Rattle.grammar.specs.Lists.{OperatorOf}
use Rattle.covers.specs.Nodes.{Node, Listed}
use Rattle.nodes.specs.declared.NodeNumber.{NodeNumber}
use Rattle.nodes.specs.declared.NodeRefusal.{NodeRefusal}
use Rattle.nodes.specs.declared.NodeRefusal.TheVariants.{Full}
use Rattle.nodes.specs.declared.Nodes.{Nodes}
use Rattle.nodes.specs.Checks.{check_node, check_answer}
use Rattle.nodes.specs.Meaning.{Pushed, most_of, nodes_of}
use Rattle.nodes.specs.Views.{number_of}
use Rattle.nodes.proofs.Pushing.{pushed_more}
use Rattle.nodes.proofs.Right.{check_ok, checked_room, checked_below, checked_listed}
use Rattle.nodes_tests.specs.Entering.{Enters}

number_ok : (o : Option NodeNumber) (e : NodeRefusal) (n : ℕ) → number_of o ≡ Some n → map_ok (λ (x : NodeNumber). x.0) (ok_or o e) ≡ Ok n
number_ok None e n h = cc
number_ok (Some x) e n h = (let q : x.0 ≡ n = cc in ap {B = Result ℕ NodeRefusal} Ok q)

module _ (ops : List OperatorOf) (v : Nodes) (x : Node) (l : Option ℕ) (g : Listed ops (nodes_of v)) where
  abbrev checked : Option NodeRefusal
  checked = check_node ops (most_of v) (nodes_of v) x

  pub enters_pushed : (o : Option NodeNumber) (u : Nodes) → Ok tt ≡ check_answer checked → Pushed v x l o u → Enters ops v x l (ok_or o Full) u
  enters_pushed o u h p =
      let q = check_ok checked (sym h) in
      let m = pushed_more v u x l o (checked_room ops (most_of v) (nodes_of v) x q) (checked_below ops (most_of v) (nodes_of v) x q) p in
      record {
        answer = rw q (number_ok o Full (length (nodes_of v)) m.answer);
        nodes = rw q m.nodes;
        labels = rw q m.labels;
        listed = subst (Listed ops) (sym m.nodes) (checked_listed ops (most_of v) (nodes_of v) x g q);
      }
