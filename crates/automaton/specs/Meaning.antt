-- What an automaton means, by all that was asked of it.
use Rattle.std.specs.Prelude.{◌≡◌, ℕ, ◌≤◌, List, [], ◌∷◌, ◌++◌, length, Some, None, Ok, Err, Option, Result}
use Rattle.cost.specs.Model.{Model}
use Rattle.grammar.specs.Lists.{Lists}
use Rattle.grammar.specs.Meaning.{grammar_lists}
use Rattle.covers.specs.Trees.{Tree, count}
use Rattle.covers.specs.Ranks.{at}
use Rattle.covers.specs.Nodes.{Node, Listed}
use Rattle.covers.specs.Held.{In, rows_held, keys_held, label}
use Rattle.nodes.specs.Checks.{check_node}
use Rattle.nodes.specs.Meaning.{nodes_of, labels_of, most_of}
use Rattle.label.specs.Meaning.{Meaning, by_room}
use Rattle.label.specs.declared.refusals.AddRefusal.{AddRefusal}
use Rattle.label.specs.declared.refusals.BirthRefusal.{BirthRefusal}
use Rattle.states.specs.Meaning.{Knows, SameTables}
use Rattle.automaton.specs.declared.Automaton.{Automaton}
use Rattle.automaton.specs.declared.Capacities.{Capacities}
use Rattle.automaton.specs.Birth.{Lengths, birth}
use Rattle.automaton.specs.Histories.{History, added, open_nodes, open_trees, new_tree, accepted, open_labels, room_after, event}

-- what an automaton has from birth on: its grammar, and how many nodes, keys and rows there may be
abbrev pub grammar_of : {C : Type 0} {cost eq keyed : _} → Automaton C cost eq keyed → Lists C
grammar_of a = grammar_lists a.grammar.now

abbrev pub most_nodes : {C : Type 0} {cost eq keyed : _} → Automaton C cost eq keyed → ℕ
most_nodes a = most_of a.nodes

abbrev pub most_keys : {C : Type 0} {cost eq keyed : _} → Automaton C cost eq keyed → ℕ
most_keys a = a.states.most_keys

abbrev pub most_rows : {C : Type 0} {cost eq keyed : _} → Automaton C cost eq keyed → ℕ
most_rows a = a.states.most_rows

-- a has this history behind it: the open tree has the nodes accepted since the last start or clear, with the labels of the definitions,
-- and the states hold the rows and keys of all nodes accepted since the last clear
pub record Lived {C : Type 0} {cost eq keyed : _} (m : Model C) (a : Automaton C cost eq keyed) (h : History) : Type 0 where
  pub few : most_nodes a ≤ 2048
  pub nodes : nodes_of a.nodes ≡ open_nodes h
  pub labels : labels_of a.nodes ≡ open_labels m (grammar_of a) h
  pub listed : Listed (grammar_of a).operators (open_nodes h)
  pub opens : (i : ℕ) (t : Tree) → at (open_trees h) i ≡ Some t → In t (accepted h)
  pub knows : Knows m (grammar_of a) a.states (accepted h)

-- the same grammar and limits
pub record Fixed {C : Type 0} {cost eq keyed : _} (a b : Automaton C cost eq keyed) : Type 0 where
  pub grammar : grammar_of b ≡ grammar_of a
  pub nodes : most_nodes b ≡ most_nodes a
  pub keys : most_keys b ≡ most_keys a
  pub rows : most_rows b ≡ most_rows a

-- why x is refused after a history: it does not pass the checks, or there is no room for it
abbrev pub refusal_after : {C : Type 0} {cost eq keyed : _} → Model C → Automaton C cost eq keyed → History → Node → Option AddRefusal
refusal_after m a h x = by_room (check_node (grammar_of a).operators (most_nodes a) (open_nodes h) x) (room_after m (grammar_of a) (most_keys a) (most_rows a) h x)

-- the label of t once it is accepted after ts, and none where there is no tree
abbrev pub label_then : {C : Type 0} → Model C → Lists C → List Tree → Option Tree → Option ℕ
label_then m G ts None = None
label_then m G ts (Some t) = Some (label m G (ts ++ t ∷ []) t)

-- what adding x answers after a history: the refusal, or the number of the node and its label
abbrev pub answer_by : {C : Type 0} → Option AddRefusal → Model C → Lists C → History → Node → Result (ℕ × Option ℕ) AddRefusal
answer_by (Some e) m G h x = Err e
answer_by None m G h x = Ok (length (open_nodes h), label_then m G (accepted h) (new_tree h x))

abbrev pub add_answer_after : {C : Type 0} {cost eq keyed : _} → Model C → Automaton C cost eq keyed → History → Node → Result (ℕ × Option ℕ) AddRefusal
add_answer_after m a h x = answer_by (refusal_after m a h x) m (grammar_of a) h x

-- from a, the automaton b once a node was refused: only the work places may differ
pub record Unchanged {C : Type 0} {cost eq keyed : _} (a b : Automaton C cost eq keyed) : Type 0 where
  pub grammar : b.grammar ≡ a.grammar
  pub nodes : b.nodes ≡ a.nodes
  pub states : SameTables a.states b.states

-- adding x to a after the history h: the answer is that of the definitions, b has the history with this event behind it, an accepted
-- node leaves the labels of the others, and a refused one leaves all but the work places
pub record AddsTo {C : Type 0} {cost eq keyed : _} (m : Model C) (a : Automaton C cost eq keyed) (h : History) (x : Node) (r : Result (ℕ × Option ℕ) AddRefusal) (b : Automaton C cost eq keyed) : Type 0 where
  pub answer : r ≡ add_answer_after m a h x
  pub lived : Lived m b (event x r ∷ h)
  pub labels : (q : ℕ × Option ℕ) → r ≡ Ok q → open_labels m (grammar_of a) (added x ∷ h) ≡ open_labels m (grammar_of a) h ++ q.1 ∷ []
  pub unchanged : (e : AddRefusal) → r ≡ Err e → Unchanged a b

-- born with these capacities for this grammar, or refused
abbrev pub Born : {C : Type 0} {cost eq keyed : _} → Model C → Lists C → Capacities → Lengths → Result (Automaton C cost eq keyed) BirthRefusal → Type 0
Born m G c x (Err e) = birth c (count G) x ≡ Some e
Born m G c x (Ok a) = (birth c (count G) x ≡ None) × (grammar_of a ≡ G) × (most_nodes a ≡ c.nodes) × (most_keys a ≡ c.keys) × (most_rows a ≡ c.rows) × Lived m a []

-- as a labeller: what its history says
pub record AutomatonMeans {C : Type 0} {cost eq keyed : _} (m : Model C) (a : Automaton C cost eq keyed) (μ : Meaning C) : Type 0 where
  pub history : History
  pub lived : Lived m a history
  pub grammar : μ.grammar ≡ grammar_of a
  pub most : μ.most ≡ most_nodes a
  pub nodes : μ.nodes ≡ open_nodes history
  pub labels : μ.labels ≡ open_labels m (grammar_of a) history
  pub rows : μ.rows ≡ length (rows_held m (grammar_of a) (accepted history))
  pub keys : μ.keys ≡ length (keys_held m (grammar_of a) (accepted history))
  pub room : (x : Node) → μ.room x ≡ room_after m (grammar_of a) (most_keys a) (most_rows a) history x
