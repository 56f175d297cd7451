-- One line more of a file.
use Rattle.std.proofs.Common.{◌≡◌, ℕ, List, [], ◌∷◌, Ok, Err, refl, ap}
use Rattle.cost.specs.Model.{Model}
use Rattle.name.specs.Outcomes.{and_then, map_err}
use Rattle.grammar.specs.Lists.{Text, Lists}
use Rattle.machine.specs.Files.{taken, all_taken, in_line}
use Rattle.fault.specs.declared.LineFault.{LineFault}

module _ {C : Type 0} (m : Model C) (price : ℕ → ℕ → C) (G : Lists C) where
  pub all_more : (n : ℕ) (x : Text) (ps : List (ℕ × Text)) (H : Lists C) → taken m price G x ≡ Ok H → all_taken m price G ((n, x) ∷ ps) ≡ all_taken m price H ps
  unfolding all_taken
  all_more n x ps H h = ap (λ r. and_then (map_err (in_line n) r) (λ K. all_taken m price K ps)) h

  pub all_fault : (n : ℕ) (x : Text) (ps : List (ℕ × Text)) (e : LineFault) → taken m price G x ≡ Err e → all_taken m price G ((n, x) ∷ ps) ≡ Err (in_line n e)
  unfolding all_taken
  all_fault n x ps e h = ap (λ r. and_then (map_err (in_line n) r) (λ K. all_taken m price K ps)) h

  pub all_none : all_taken m price G [] ≡ Ok G
  unfolding all_taken
  all_none = refl
