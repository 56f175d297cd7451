-- What adding a node answers, and what is kept afterwards.
use Rattle.std.proofs.Common.{◌≡◌, ℕ, List, length, Some, None, Ok, Option, Result, sym, refl, ap, ◌∙◌, subst}
use Rattle.std.specs.Option.{ok_or}
use Rattle.cost.specs.Model.{Model}
use Rattle.grammar.specs.Lists.{OperatorOf, RuleOf, Lists, Declared}
use Rattle.covers.proofs.Relaxing.{some_is, none_some}
use Rattle.nodes.specs.declared.Node.{Node as CodeNode}
use Rattle.nodes.specs.declared.NodeNumber.{NodeNumber}
use Rattle.nodes.specs.declared.NodeRefusal.{NodeRefusal}
use Rattle.nodes.specs.declared.NodeRefusal.TheVariants.{Full}
use Rattle.nodes.specs.declared.Nodes.{Nodes}
use Rattle.nodes.specs.Checks.{check_node, check_answer}
use Rattle.nodes.specs.Meaning.{Pushed, most_of, nodes_of}
use Rattle.nodes.specs.Views.{node_of, number_of}
use Rattle.nodes.proofs.Pushing.{Appended, pushed_more}
use Rattle.nodes.proofs.Right.{check_ok, checked_room, checked_below}
use Rattle.label.specs.declared.refusals.AddRefusal.{AddRefusal}
use Rattle.row.specs.declared.work.Work.{Work}
use Rattle.plain.specs.Keeping.{Keeps}
use Rattle.plain.specs.Meaning.{AddsPlain}
use Rattle.plain.specs.Rows.{RowAdded}
use Rattle.plain.proofs.Adding.{keeps_more}

number_ok : (o : Option NodeNumber) (e : NodeRefusal) (n : NodeNumber) (k : ℕ) → Ok n ≡ ok_or o e → number_of o ≡ Some k → n.0 ≡ k
number_ok None e n k h q = absurd (none_some k q)
number_ok (Some x) e n k h q = (let s : n ≡ x = cc in ap (λ (z : NodeNumber). z.0) s ∙ some_is x.0 k q)

module _ (G : List OperatorOf) (v : Nodes) (x : CodeNode) (ops : List OperatorOf) (same : ops ≡ G) where
  abbrev checked : Option NodeRefusal
  checked = check_node G (most_of v) (nodes_of v) (node_of x)

  check_here : (r : Result (Unit {0}) NodeRefusal) → r ≡ check_answer (check_node ops (most_of v) (nodes_of v) (node_of x)) → r ≡ check_answer checked
  check_here r e = e ∙ ap (λ z. check_answer (check_node z (most_of v) (nodes_of v) (node_of x))) same

  module _ (passed : Ok tt ≡ check_answer (check_node ops (most_of v) (nodes_of v) (node_of x))) (u : Nodes) (o : Option NodeNumber) (pushed : Pushed v (node_of x) None o u) where
    none : checked ≡ None
    none = check_ok checked (sym (check_here (Ok tt) passed))

    more : Appended v (node_of x) None o u
    more =
        pushed_more v u (node_of x) None o
        (checked_room G (most_of v) (nodes_of v) (node_of x) none)
        (checked_below G (most_of v) (nodes_of v) (node_of x) none) pushed

    -- a node that passed the checks is appended
    pub adds_more : (n : NodeNumber) → Ok n ≡ ok_or o Full → AddsPlain checked (nodes_of v) (node_of x) (Ok (n.0, None)) (nodes_of u)
    adds_more n e =
        let number = number_ok o Full n (length (nodes_of v)) e more.answer in
        subst (λ z. AddsPlain z (nodes_of v) (node_of x) (Ok (n.0, None)) (nodes_of u)) (sym none)
        (ap {B = Result (ℕ × Option ℕ) AddRefusal} (λ z. Ok (z, None)) number, more.nodes)

-- what is kept once a node that passed the checks is pushed, and its row added
module _ {C : Type 0} (m : Model C) (G : Lists C) (declared : Declared G) (v : Nodes) (row rows : List (Option (Work C))) (keeps : Keeps m G v row rows) (x : CodeNode) (ops : List OperatorOf) (same : ops ≡ G.operators) (passed : Ok tt ≡ check_answer (check_node ops (most_of v) (nodes_of v) (node_of x))) (u : Nodes) (most : most_of u ≡ most_of v) (ρs : List (RuleOf C)) (rules : ρs ≡ G.rules) (row' rows' : List (Option (Work C))) where
  pub keeps_after : (o : Option NodeNumber) → Pushed v (node_of x) None o u → ((k : NodeNumber) → o ≡ Some k → RowAdded m ρs k.0 x row rows row' rows') → Keeps m G u row' rows'
  keeps_after None pushed added = absurd (none_some (length (nodes_of v)) (more G.operators v x ops same passed u None pushed).answer)
  keeps_after (Some k) pushed added =
      let after = more G.operators v x ops same passed u (Some k) pushed in
      keeps_more m G declared v row rows keeps u row' rows' x k.0 (none G.operators v x ops same passed u (Some k) pushed)
      (some_is k.0 (length (nodes_of v)) after.answer) most after.nodes after.labels
      (subst (λ z. RowAdded m z k.0 x row rows row' rows') rules (added k refl))
