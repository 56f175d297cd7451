-- What a plain labeller means.
use Rattle.std.specs.Prelude.{◌≡◌, ℕ, List, [], ◌∷◌, ◌++◌, length, Some, None, Ok, Err, Option, Result}
use Rattle.grammar.specs.Lists.{Lists}
use Rattle.grammar.specs.Meaning.{grammar_lists}
use Rattle.covers.specs.Trees.{count}
use Rattle.covers.specs.Nodes.{Node}
use Rattle.nodes.specs.Meaning.{most_of, nodes_of}
use Rattle.nodes.specs.declared.NodeRefusal.{NodeRefusal}
use Rattle.label.specs.Meaning.{Meaning}
use Rattle.label.specs.declared.refusals.BirthRefusal.{BirthRefusal}
use Rattle.label.specs.declared.refusals.AddRefusal.{AddRefusal}
use Rattle.label.specs.declared.refusals.AddRefusal.TheVariants.{Node as Unfit}
use Rattle.plain.specs.declared.Plain.{Plain}
use Rattle.plain.specs.Birth.{birth}
use Rattle.plain.specs.Keeping.{no_labels}

-- the grammar of a plain labeller, and the largest number of its nodes
abbrev pub grammar_of : {C : Type 0} {cost eq : _} → Plain C cost eq → Lists C
grammar_of p = grammar_lists p.grammar.now

abbrev pub most_nodes : {C : Type 0} {cost eq : _} → Plain C cost eq → ℕ
most_nodes p = most_of p.nodes

-- the nodes of the open tree
abbrev pub open_nodes : {C : Type 0} {cost eq : _} → Plain C cost eq → List Node
open_nodes p = nodes_of p.nodes

-- what a birth answers, over the grammar G, for trees of up to most nodes, with so many node places and row places: a refusal exactly
-- where there is a reason for one, and else a labeller without nodes
abbrev pub Born : {C : Type 0} {cost eq : _} → Lists C → ℕ → ℕ → ℕ → Result (Plain C cost eq) BirthRefusal → Type 0
Born G most nodes rows (Err e) = birth most (count G) nodes rows ≡ Some e
Born G most nodes rows (Ok p) = (birth most (count G) nodes rows ≡ None) × (grammar_of p ≡ G) × (most_nodes p ≡ most) × (open_nodes p ≡ [])

-- from p, the labeller q has the same grammar and the same largest number of nodes
pub record Fixed {C : Type 0} {cost eq : _} (p q : Plain C cost eq) : Type 0 where
  pub grammar : grammar_of q ≡ grammar_of p
  pub most : most_nodes q ≡ most_nodes p

-- from p, the labeller q once the list of nodes became empty
pub record Emptied {C : Type 0} {cost eq : _} (p q : Plain C cost eq) : Type 0 where
  pub fixed : Fixed p q
  pub nodes : open_nodes q ≡ []
  pub newest : q.newest ≡ p.newest
  pub earlier : q.earlier ≡ p.earlier

-- as a labeller: no node has a label, no row and no key is held, and there is always room
pub record PlainMeans {C : Type 0} {cost eq : _} (p : Plain C cost eq) (μ : Meaning C) : Type 0 where
  pub grammar : μ.grammar ≡ grammar_of p
  pub most : μ.most ≡ most_nodes p
  pub nodes : μ.nodes ≡ open_nodes p
  pub labels : μ.labels ≡ no_labels μ.nodes
  pub rows : μ.rows ≡ 0
  pub keys : μ.keys ≡ 0
  pub room : (x : Node) → μ.room x ≡ None

-- what adding x to the nodes ns answers, and the nodes ys afterwards: a node that does not pass the checks is refused, and any other is
-- appended without a label
abbrev pub AddsPlain : Option NodeRefusal → List Node → Node → Result (ℕ × Option ℕ) AddRefusal → List Node → Type 0
AddsPlain (Some e) ns x r ys = (r ≡ Err (Unfit e)) × (ys ≡ ns)
AddsPlain None ns x r ys = (r ≡ Ok (length ns, None)) × (ys ≡ ns ++ x ∷ [])
