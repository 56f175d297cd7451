-- What a store learns of an owner that entered a key.
use Rattle.std.proofs.Common.{◌≡◌, ℕ, true, ◌&&◌, eqb, List, is_some, Ok, Err, Result, sym, refl, ap, ◌∙◌, arith}
use Rattle.std.proofs.lemmas.Bool.{and_from, eq-eqb}
use Rattle.table.specs.declared.Refusal.{Refusal}
use Rattle.table.specs.Keys.{place_of}
use Rattle.table.proofs.Places.{put_found, put_refused}
use Rattle.table_tests.specs.declared.NodeKey.{NodeKey}
use Rattle.table_tests.specs.declared.NodeKey.TheVariants.{Leaf, Unary, Binary}
use Rattle.table_tests.specs.Keys.{node_key, node_same}
use Rattle.table_tests.specs.Entering.{Entered, entered_nodes, enter_answer}

pub entered : (a r : Result ℕ Refusal) (room : ℕ) (ns ls : List NodeKey) (key : NodeKey)
    → r ≡ enter_answer a room ns key → ls ≡ entered_nodes a room ns key → Entered room ns key r ls
entered (Ok label) (Ok place) room ns ls key e h = (sym e, h)
entered (Ok label) (Err f) room ns ls key e h = h ∙ put_refused node_key room ns key f (sym e)
entered (Err g) (Ok place) room ns ls key e h = let z : ◌≡◌ {A = ℕ} 0 1 = cc in absurd (omega arith)
entered (Err g) (Err f) room ns ls key e h = h

node_own : (k : NodeKey) → node_same k k ≡ true
node_own (Leaf o) = eq-eqb o o refl
node_own (Unary o a) = and_from (eqb o o) (eqb a a) (eq-eqb o o refl) (eq-eqb a a refl)
node_own (Binary o a c) =
    and_from (eqb o o) (eqb a a && eqb c c) (eq-eqb o o refl)
    (and_from (eqb a a) (eqb c c) (eq-eqb a a refl) (eq-eqb c c refl))

-- An accepted key has a place from then on.
pub kept : (room : ℕ) (ns ls : List NodeKey) (key : NodeKey) (place : ℕ)
    → Entered room ns key (Ok place) ls → is_some (place_of node_key ls key) ≡ true
kept room ns ls key place h =
    ap (λ ks. is_some (place_of node_key ks key)) h.1
    ∙ ap is_some (put_found node_key room ns key place (node_own key) h.0)
