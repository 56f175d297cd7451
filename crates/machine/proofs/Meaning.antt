-- Files are accepted where every line is taken, and refused at the first line that is not.
use Rattle.std.proofs.Common.{◌≡◌, ℕ, List, [], ◌∷◌, ◌++◌, Some, None, Ok, Err, Result, sym, refl, ap, ◌∙◌, arith}
use Rattle.std.specs.Result.{result_err}
use Rattle.cost.specs.Model.{Model}
use Rattle.name.specs.Outcomes.{and_then, map_err}
use Rattle.entry.specs.Entries.{EntryOf, entry_of}
use Rattle.fault.specs.Faults.{draft_fault}
use Rattle.fault.specs.declared.LineFault.{LineFault}
use Rattle.fault.specs.declared.MachineFault.{MachineFault}
use Rattle.grammar.specs.Lists.{Text, Lists}
use Rattle.grammar.specs.declared.refusal.DraftRefusal.{DraftRefusal}
use Rattle.machine.specs.Files.{drafted, taken, all_taken, in_line}
use Rattle.machine.specs.Readings.{first, all_checks, Takes, TakesAll, FirstFault, LinesMean}
use Rattle.machine.proofs.Taking.{all_more, all_fault, all_none}
use Rattle.machine.proofs.Checks.{taken_first}

pub clash : {A E : Type 0} {P : Type 0} (x : A) (e : E) → ◌≡◌ {A = Result A E} (Ok x) (Err e) → P
clash x e h = let z : ◌≡◌ {A = ℕ} 0 1 = cc in absurd (omega arith)

pub err_is : {A E : Type 0} (r : Result A E) (e : E) → result_err r ≡ Some e → r ≡ Err e
err_is (Ok x) e h = let z : ◌≡◌ {A = ℕ} 0 1 = cc in absurd (omega arith)
err_is (Err d) e h = let same : d ≡ e = cc in ap Err same

module _ {C : Type 0} (m : Model C) (price : ℕ → ℕ → C) where
  drafted_ok : (d : Result (Lists C) DraftRefusal) (K : Lists C) → map_err draft_fault d ≡ Ok K → d ≡ Ok K
  drafted_ok (Ok H) K h = let same : H ≡ K = cc in ap Ok same
  drafted_ok (Err e) K h = clash K (draft_fault e) (sym h)

  takes_as : (G : Lists C) (xs : Text) (K : Lists C) (r : Result EntryOf LineFault) → entry_of xs ≡ r → first (all_checks m price G xs) ≡ None → and_then r (λ e. map_err draft_fault (drafted m price G e)) ≡ Ok K → Takes m price G xs K
  takes_as G xs K (Ok e) s p h = record { passes = p; entry = e; says = s; drafts = drafted_ok (drafted m price G e) K h }
  takes_as G xs K (Err f) s p h = clash K f (sym h)

  -- a line is taken where the definition takes it
  takes : (G : Lists C) (xs : Text) (K : Lists C) → taken m price G xs ≡ Ok K → Takes m price G xs K
  takes G xs K h = takes_as G xs K (entry_of xs) refl (sym (taken_first m price G xs) ∙ ap result_err h) h

  taken_by : (G : Lists C) (xs : Text) (K : Lists C) → Takes m price G xs K → taken m price G xs ≡ Ok K
  taken_by G xs K t =
      ap (λ r. and_then r (λ e. map_err draft_fault (drafted m price G e))) t.says ∙ ap (map_err draft_fault) t.drafts

  ok_step : (G : Lists C) (p : ℕ × Text) (ps : List (ℕ × Text)) (H : Lists C) (r : Result (Lists C) LineFault) → ((K : Lists C) → all_taken m price K ps ≡ Ok H → TakesAll m price K ps H) → taken m price G p.1 ≡ r → all_taken m price G (p ∷ ps) ≡ Ok H → TakesAll m price G (p ∷ ps) H
  ok_step G p ps H (Ok K) others e h = (K, takes G p.1 K e, others K (sym (all_more m price G p.0 p.1 ps K e) ∙ h))
  ok_step G p ps H (Err f) others e h = clash H (in_line p.0 f) (sym h ∙ all_fault m price G p.0 p.1 ps f e)

  ok_all : (G : Lists C) (ps : List (ℕ × Text)) (H : Lists C) → all_taken m price G ps ≡ Ok H → TakesAll m price G ps H
  ok_all G [] H h = let e = all_none m price G in let same : G ≡ H = cc in same
  ok_all G (p ∷ ps) H h = ok_step G p ps H (taken m price G p.1) (λ K. ok_all K ps H) refl h

  all_ok : (G : Lists C) (ps : List (ℕ × Text)) (H : Lists C) → TakesAll m price G ps H → all_taken m price G ps ≡ Ok H
  all_ok G [] H h = all_none m price G ∙ ap Ok h
  all_ok G (p ∷ ps) H h = all_more m price G p.0 p.1 ps h.0 (taken_by G p.1 h.0 h.1) ∙ all_ok h.0 ps H h.2

  fault_step : (G : Lists C) (p : ℕ × Text) (ps : List (ℕ × Text)) (f : MachineFault) (r : Result (Lists C) LineFault) → ((K : Lists C) → all_taken m price K ps ≡ Err f → FirstFault m price K ps f) → taken m price G p.1 ≡ r → all_taken m price G (p ∷ ps) ≡ Err f → FirstFault m price G (p ∷ ps) f
  fault_step G p ps f (Ok K) others e h =
      let later = others K (sym (all_more m price G p.0 p.1 ps K e) ∙ h) in
      record {
        before = p ∷ later.before;
        number = later.number;
        line = later.line;
        after = later.after;
        lists = later.lists;
        fault = later.fault;
        stands = ap (λ qs. p ∷ qs) later.stands;
        taken_before = (K, takes G p.1 K e, later.taken_before);
        found = later.found;
        is = later.is;
      }
  fault_step G p ps f (Err d) others e h =
      let k = all_fault m price G p.0 p.1 ps d e in
      let same : in_line p.0 d ≡ f = cc in
      record {
        before = [];
        number = p.0;
        line = p.1;
        after = ps;
        lists = G;
        fault = d;
        stands = refl;
        taken_before = refl;
        found = sym (taken_first m price G p.1) ∙ ap result_err e;
        is = sym same;
      }

  fault_all : (G : Lists C) (ps : List (ℕ × Text)) (f : MachineFault) → all_taken m price G ps ≡ Err f → FirstFault m price G ps f
  fault_all G [] f h = clash G f (sym (all_none m price G) ∙ h)
  fault_all G (p ∷ ps) f h = fault_step G p ps f (taken m price G p.1) (λ K. fault_all K ps f) refl h

  fault_from : (before : List (ℕ × Text)) (G K : Lists C) (n : ℕ) (xs : Text) (after : List (ℕ × Text)) (e : LineFault) → TakesAll m price G before K → first (all_checks m price K xs) ≡ Some e → all_taken m price G (before ++ (n, xs) ∷ after) ≡ Err (in_line n e)
  fault_from [] G K n xs after e t h =
      ap (λ H. all_taken m price H ((n, xs) ∷ after)) t ∙ all_fault m price K n xs after e (err_is _ e (taken_first m price K xs ∙ h))
  fault_from (p ∷ ps) G K n xs after e t h =
      all_more m price G p.0 p.1 _ t.0 (taken_by G p.1 t.0 t.1) ∙ fault_from ps t.0 K n xs after e t.2 h

  all_fault_by : (G : Lists C) (ps : List (ℕ × Text)) (f : MachineFault) → FirstFault m price G ps f → all_taken m price G ps ≡ Err f
  all_fault_by G ps f r =
      ap (all_taken m price G) r.stands ∙ fault_from r.before G r.lists r.number r.line r.after r.fault r.taken_before r.found ∙ ap Err (sym r.is)

  pub lines_mean : (G : Lists C) (ps : List (ℕ × Text)) → LinesMean m price G ps
  lines_mean G ps = record { accepted = λ H. (ok_all G ps H, all_ok G ps H); first_fault = λ f. (fault_all G ps f, all_fault_by G ps f) }
