-- What reading a whole file means.
use Rattle.std.proofs.Common.{◌≡◌, ℕ, ◌<◌, ◌≤◌, Bool, true, false, ltb, ◌⊎◌, List, [], ◌∷◌, length, None, Ok, Err, Result, sym, refl, ap, ◌∙◌, inl, inr, arith}
use Rattle.std.specs.Result.{result_err}
use Rattle.std.proofs.lemmas.Bool.{ltb-true, ltb-false, lt-ltb, le-ltb}
use Rattle.cost.specs.Counts.{count_model}
use Rattle.name.specs.Outcomes.{and_then, map_ok, map_err}
use Rattle.entry.specs.Entries.{header_of}
use Rattle.entry.specs.declared.header.Labelling.{Labelling}
use Rattle.entry.specs.declared.header.Make.{Make}
use Rattle.entry.specs.declared.header.Make.TheVariants.{Bytes, Cycles}
use Rattle.fault.specs.declared.LineFault.{LineFault}
use Rattle.fault.specs.declared.LineRefusal.TheVariants.{Unknown}
use Rattle.fault.specs.declared.MachineFault.{MachineFault}
use Rattle.fault.specs.declared.Refusal.TheVariants.{File, Line}
use Rattle.grammar.specs.Drafting.{refuse_if, empty}
use Rattle.grammar.specs.Lists.{Text}
use Rattle.tariff.specs.Tariffs.{counted, cycles_first}
use Rattle.machine.specs.Files.{in_line, in_file, lines_of, longest_file, pairs, MachineOf, bytes_machine, cycles_machine, machine_in, first_of, machine_of}
use Rattle.machine.specs.Readings.{first, header_checks, Makes, Faults, Accepted, HeaderFault, LaterFault, Refused, Reading}
use Rattle.machine.proofs.Checks.{header_first}
use Rattle.machine.proofs.Meaning.{clash, err_is, lines_mean}

map_inv : {A B E : Type 0} (f : A → B) (r : Result A E) (v : B) → map_ok f r ≡ Ok v → (x : A) × (r ≡ Ok x) × (f x ≡ v)
map_inv f (Ok x) v h = let same : f x ≡ v = cc in (x, refl, same)
map_inv f (Err e) v h = clash v e (sym h)

map_ok_err : {A B E : Type 0} (f : A → B) (r : Result A E) (e : E) → map_ok f r ≡ Err e → r ≡ Err e
map_ok_err f (Ok x) e h = clash (f x) e h
map_ok_err f (Err d) e h = let same : d ≡ e = cc in ap Err same

-- the lines after the first
makes_from : (h : Make × Labelling) (ps : List (ℕ × Text)) (made : MachineOf) → machine_in h ps ≡ Ok made → Makes h ps made
makes_from (Bytes, l) ps (bytes_machine k G) e =
    let i = map_inv (bytes_machine l) _ (bytes_machine k G) e in
    let q : bytes_machine l i.0 ≡ bytes_machine k G = i.2 in
    let same : l ≡ k = cc in
    let lists : i.0 ≡ G = cc in
    (same, ((lines_mean count_model (λ cycles bytes. counted bytes) empty ps).accepted G).0 (i.1 ∙ ap Ok lists))
makes_from (Bytes, l) ps (cycles_machine k G) e =
    let i = map_inv (bytes_machine l) _ (cycles_machine k G) e in
    let q : bytes_machine l i.0 ≡ cycles_machine k G = i.2 in
    let z : ◌≡◌ {A = ℕ} 0 1 = cc in omega arith
makes_from (Cycles, l) ps (bytes_machine k G) e =
    let i = map_inv (cycles_machine l) _ (bytes_machine k G) e in
    let q : cycles_machine l i.0 ≡ bytes_machine k G = i.2 in
    let z : ◌≡◌ {A = ℕ} 0 1 = cc in omega arith
makes_from (Cycles, l) ps (cycles_machine k G) e =
    let i = map_inv (cycles_machine l) _ (cycles_machine k G) e in
    let q : cycles_machine l i.0 ≡ cycles_machine k G = i.2 in
    let same : l ≡ k = cc in
    let lists : i.0 ≡ G = cc in
    (same, ((lines_mean pairs cycles_first empty ps).accepted G).0 (i.1 ∙ ap Ok lists))

makes_to : (h : Make × Labelling) (ps : List (ℕ × Text)) (made : MachineOf) → Makes h ps made → machine_in h ps ≡ Ok made
makes_to (Bytes, l) ps (bytes_machine k G) t =
    ap (map_ok (bytes_machine l)) (((lines_mean count_model (λ cycles bytes. counted bytes) empty ps).accepted G).1 t.1) ∙ ap (λ j. Ok (bytes_machine j G)) t.0
makes_to (Bytes, l) ps (cycles_machine k G) t = absurd t
makes_to (Cycles, l) ps (bytes_machine k G) t = absurd t
makes_to (Cycles, l) ps (cycles_machine k G) t =
    ap (map_ok (cycles_machine l)) (((lines_mean pairs cycles_first empty ps).accepted G).1 t.1) ∙ ap (λ j. Ok (cycles_machine j G)) t.0

faults_from : (h : Make × Labelling) (ps : List (ℕ × Text)) (f : MachineFault) → machine_in h ps ≡ Err f → Faults h ps f
faults_from (Bytes, l) ps f e = ((lines_mean count_model (λ cycles bytes. counted bytes) empty ps).first_fault f).0 (map_ok_err (bytes_machine l) _ f e)
faults_from (Cycles, l) ps f e = ((lines_mean pairs cycles_first empty ps).first_fault f).0 (map_ok_err (cycles_machine l) _ f e)

faults_to : (h : Make × Labelling) (ps : List (ℕ × Text)) (f : MachineFault) → Faults h ps f → machine_in h ps ≡ Err f
faults_to (Bytes, l) ps f t = ap (map_ok (bytes_machine l)) (((lines_mean count_model (λ cycles bytes. counted bytes) empty ps).first_fault f).1 t)
faults_to (Cycles, l) ps f t = ap (map_ok (cycles_machine l)) (((lines_mean pairs cycles_first empty ps).first_fault f).1 t)

-- the lines of a file that is short enough
abbrev of_lines : List (ℕ × Text) → Result MachineOf MachineFault
of_lines ps = and_then (first_of ps) (λ f. machine_in f.0 f.1)

abbrev of_header : ℕ → List (ℕ × Text) → Result (Make × Labelling) LineFault → Result MachineOf MachineFault
of_header n others r = and_then {A = (Make × Labelling) × List (ℕ × Text)} (map_ok (λ h. (h, others)) (map_err (in_line n) r)) (λ f. machine_in f.0 f.1)

limit_not : (xs : Text) → length xs ≤ longest_file → of_lines (lines_of xs) ≡ machine_of xs
limit_not xs h = sym (ap (λ b. refuse_if b (in_file File) (of_lines (lines_of xs))) (le-ltb longest_file (length xs) h))

limit_over : (xs : Text) → longest_file < length xs → machine_of xs ≡ Err (in_file File)
limit_over xs h = ap (λ b. refuse_if b (in_file File) (of_lines (lines_of xs))) (lt-ltb longest_file (length xs) h)

passes : (line : Text) (h : Make × Labelling) → header_of line ≡ Ok h → first (header_checks line) ≡ None
passes line h e = sym (header_first line) ∙ ap result_err e

accepted_from : (xs : Text) (made : MachineOf) → machine_of xs ≡ Ok made → Accepted xs made
accepted_from xs made h = by_limit (ltb longest_file (length xs)) refl where
  by_header : (p : ℕ × Text) (others : List (ℕ × Text)) (r : Result (Make × Labelling) LineFault) → length xs ≤ longest_file → lines_of xs ≡ p ∷ others → header_of p.1 ≡ r → of_header p.0 others r ≡ Ok made → Accepted xs made
  by_header p others (Ok k) short e s g =
      record { short = short; number = p.0; line = p.1; others = others; lines = e; passes = passes p.1 k s; header = k; says = s; makes = makes_from k others made g }
  by_header p others (Err f) short e s g = clash made (in_line p.0 f) (sym g)

  by_lines : (ps : List (ℕ × Text)) → length xs ≤ longest_file → lines_of xs ≡ ps → of_lines ps ≡ Ok made → Accepted xs made
  by_lines [] short e g = clash made (in_file (Line Unknown)) (sym g)
  by_lines (p ∷ others) short e g = by_header p others (header_of p.1) short e refl g

  by_limit : (b : Bool) → ltb longest_file (length xs) ≡ b → Accepted xs made
  by_limit true e = clash made (in_file File) (sym h ∙ limit_over xs (ltb-true longest_file (length xs) e))
  by_limit false e =
      let short = ltb-false longest_file (length xs) e in
      by_lines (lines_of xs) short refl (limit_not xs short ∙ h)

accepted_to : (xs : Text) (made : MachineOf) → Accepted xs made → machine_of xs ≡ Ok made
accepted_to xs made a =
    sym (limit_not xs a.short) ∙ ap of_lines a.lines ∙ ap (of_header a.number a.others) a.says ∙ makes_to a.header a.others made a.makes

refused_from : (xs : Text) (f : MachineFault) → machine_of xs ≡ Err f → Refused xs f
refused_from xs f h = by_limit (ltb longest_file (length xs)) refl where
  by_header : (p : ℕ × Text) (others : List (ℕ × Text)) (r : Result (Make × Labelling) LineFault) → lines_of xs ≡ p ∷ others → header_of p.1 ≡ r → of_header p.0 others r ≡ Err f → HeaderFault (lines_of xs) f ⊎ LaterFault (lines_of xs) f
  by_header p others (Ok k) e s g =
      inr (record { number = p.0; line = p.1; others = others; lines = e; passes = passes p.1 k s; header = k; says = s; faults = faults_from k others f g })
  by_header p others (Err d) e s g =
      let same : in_line p.0 d ≡ f = cc in
      inl (record { number = p.0; line = p.1; others = others; fault = d; lines = e; found = sym (header_first p.1) ∙ ap result_err s; is = sym same })

  by_lines : (ps : List (ℕ × Text)) → lines_of xs ≡ ps → of_lines ps ≡ Err f → ((lines_of xs ≡ []) × (f ≡ in_file (Line Unknown))) ⊎ (HeaderFault (lines_of xs) f ⊎ LaterFault (lines_of xs) f)
  by_lines [] e g = let same : in_file (Line Unknown) ≡ f = cc in inl (e, sym same)
  by_lines (p ∷ others) e g = inr (by_header p others (header_of p.1) e refl g)

  by_limit : (b : Bool) → ltb longest_file (length xs) ≡ b → Refused xs f
  by_limit true e =
      let over = ltb-true longest_file (length xs) e in
      let k = limit_over xs over in
      let same : in_file File ≡ f = cc in
      inl (over, sym same)
  by_limit false e =
      let short = ltb-false longest_file (length xs) e in
      inr (short, by_lines (lines_of xs) refl (limit_not xs short ∙ h))

refused_to : (xs : Text) (f : MachineFault) → Refused xs f → machine_of xs ≡ Err f
refused_to xs f (inl a) = limit_over xs a.0 ∙ ap Err (sym a.1)
refused_to xs f (inr a) = sym (limit_not xs a.0) ∙ by_lines a.1 where
  by_lines : ((lines_of xs ≡ []) × (f ≡ in_file (Line Unknown))) ⊎ (HeaderFault (lines_of xs) f ⊎ LaterFault (lines_of xs) f) → of_lines (lines_of xs) ≡ Err f
  by_lines (inl b) = ap of_lines b.0 ∙ ap Err (sym b.1)
  by_lines (inr (inl b)) = ap of_lines b.lines ∙ ap (of_header b.number b.others) (err_is _ b.fault (header_first b.line ∙ b.found)) ∙ ap Err (sym b.is)
  by_lines (inr (inr b)) = ap of_lines b.lines ∙ ap (of_header b.number b.others) b.says ∙ faults_to b.header b.others f b.faults

pub reading : (xs : Text) → Reading xs
reading xs = record { accepted = λ made. (accepted_from xs made, accepted_to xs made); first_fault = λ f. (refused_from xs f, refused_to xs f) }
