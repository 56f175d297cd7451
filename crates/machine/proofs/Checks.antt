-- A line is refused by the first of its checks that fails.
use Rattle.std.proofs.Common.{◌≡◌, ℕ, suc, Bool, true, false, not, eqb, ltb, List, [], ◌∷◌, ◌++◌, length, Some, None, Ok, Err, codes, Option, Result, sym, refl, ◌∙◌, arith}
use Rattle.std.specs.Option.{option_map, ok_or}
use Rattle.std.specs.Result.{result_err}
use Rattle.std.specs.Str.{bytes_eq}
use Rattle.std.proofs.lemmas.Bool.{eqb-true, not-false}
use Rattle.cost.specs.Model.{Model}
use Rattle.name.specs.Outcomes.{and_then, map_err}
use Rattle.entry.specs.Entries.{EntryOf, word, some_left, kind_of, width, kind_fields, kind_entry, fields_entry, entry_of, make_of, labelling_of, header_of, longest_line}
use Rattle.entry.specs.declared.kind.Kind.{Kind}
use Rattle.entry.specs.declared.kind.Kind.TheVariants.{Operator, Nonterminal, Base, Chain}
use Rattle.fault.specs.Faults.{too_long, unknown, miscounted, field_fault, draft_fault}
use Rattle.fault.specs.declared.LineFault.{LineFault}
use Rattle.field.specs.Bytes.{split_at}
use Rattle.field.specs.Forms.{name_form, kids_form, cost_form, cycles_form, kid_form}
use Rattle.field.specs.Lines.{first_of, take_by}
use Rattle.field.specs.Readers.{rest}
use Rattle.field.specs.declared.fault.FieldFault.{FieldFault}
use Rattle.grammar.specs.Drafting.{refuse_if}
use Rattle.grammar.specs.Lists.{Text, Lists}
use Rattle.machine.specs.Files.{drafted, taken}
use Rattle.machine.specs.Readings.{first, when, unless, kind_checks, at_fields, field_checks, line_checks, header_checks, draft_check, all_checks}

-- the error of an outcome, with another error
err_map : {A D E : Type 0} (f : D → E) (r : Result A D) → result_err (map_err f r) ≡ option_map f (result_err r)
err_map f (Ok x) = refl
err_map f (Err e) = refl

-- a check, then others
err_then : {A B : Type 0} (r : Result A FieldFault) (g : A → Result B FieldFault) (cs : List (Option LineFault)) → ((v : A) → option_map field_fault (result_err (g v)) ≡ first cs) → option_map field_fault (result_err (and_then r g)) ≡ first (option_map field_fault (result_err r) ∷ cs)
err_then (Ok v) g cs h = h v
err_then (Err e) g cs h = refl

refuse_first : {A E : Type 0} (b : Bool) (e : E) (r : Result A E) (cs : List (Option E)) → (b ≡ false → result_err r ≡ first cs) → result_err (refuse_if b e r) ≡ first (when b e ∷ cs)
refuse_first true e r cs h = refl
refuse_first false e r cs h = h refl

-- the fields of a line of each kind, where their number is right
fields_first : (k : Kind) (fs : List Text) → suc (length fs) ≡ width k → option_map field_fault (result_err (kind_fields k fs)) ≡ first (at_fields 2 (kind_checks k) fs)
unfolding take_by first_of rest
fields_first Operator (a ∷ b ∷ []) h = err_then (name_form 2 a) _ _ (λ _. err_then (kids_form 3 b) _ _ (λ _. refl))
fields_first Operator [] h = absurd (omega arith)
fields_first Operator (a ∷ []) h = absurd (omega arith)
fields_first Operator (a ∷ b ∷ c ∷ fs) h = absurd (omega arith)
fields_first Nonterminal (a ∷ []) h = err_then (name_form 2 a) _ _ (λ _. refl)
fields_first Nonterminal [] h = absurd (omega arith)
fields_first Nonterminal (a ∷ b ∷ fs) h = absurd (omega arith)
fields_first Base (a ∷ b ∷ c ∷ d ∷ e ∷ f ∷ g ∷ []) h =
    err_then (name_form 2 a) _ _ (λ _. err_then (name_form 3 b) _ _ (λ _. err_then (kid_form 4 c) _ _ (λ _. err_then (kid_form 5 d) _ _ (λ _.
    err_then (cycles_form 6 e) _ _ (λ _. err_then (cost_form 7 f) _ _ (λ _. err_then (name_form 8 g) _ _ (λ _. refl)))))))
fields_first Base [] h = absurd (omega arith)
fields_first Base (a ∷ []) h = absurd (omega arith)
fields_first Base (a ∷ b ∷ []) h = absurd (omega arith)
fields_first Base (a ∷ b ∷ c ∷ []) h = absurd (omega arith)
fields_first Base (a ∷ b ∷ c ∷ d ∷ []) h = absurd (omega arith)
fields_first Base (a ∷ b ∷ c ∷ d ∷ e ∷ []) h = absurd (omega arith)
fields_first Base (a ∷ b ∷ c ∷ d ∷ e ∷ f ∷ []) h = absurd (omega arith)
fields_first Base (a ∷ b ∷ c ∷ d ∷ e ∷ f ∷ g ∷ i ∷ fs) h = absurd (omega arith)
fields_first Chain (a ∷ b ∷ c ∷ d ∷ e ∷ []) h =
    err_then (name_form 2 a) _ _ (λ _. err_then (name_form 3 b) _ _ (λ _. err_then (cycles_form 4 c) _ _ (λ _. err_then (cost_form 5 d) _ _ (λ _.
    err_then (name_form 6 e) _ _ (λ _. refl)))))
fields_first Chain [] h = absurd (omega arith)
fields_first Chain (a ∷ []) h = absurd (omega arith)
fields_first Chain (a ∷ b ∷ []) h = absurd (omega arith)
fields_first Chain (a ∷ b ∷ c ∷ []) h = absurd (omega arith)
fields_first Chain (a ∷ b ∷ c ∷ d ∷ []) h = absurd (omega arith)
fields_first Chain (a ∷ b ∷ c ∷ d ∷ e ∷ f ∷ fs) h = absurd (omega arith)

kind_first : (o : Option Kind) (x : Text) (fs : List Text) → result_err (kind_entry o (length (x ∷ fs)) fs) ≡ first (unless o (unknown 1) ∷ field_checks o (x ∷ fs))
unfolding rest
kind_first None x fs = refl
kind_first (Some k) x fs =
    refuse_first (not (eqb (length (x ∷ fs)) (width k))) miscounted _ (at_fields 2 (kind_checks k) fs)
    (λ h. err_map field_fault (kind_fields k fs) ∙ fields_first k fs (eqb-true (suc (length fs)) (width k) (not-false _ h)))

fields_all : (fs : List Text) → result_err (fields_entry fs) ≡ first (unless (kind_of (word fs)) (unknown 1) ∷ field_checks (kind_of (word fs)) fs)
fields_all [] = refl
fields_all (x ∷ fs) = kind_first (kind_of x) x fs

entry_first : (xs : Text) → result_err (entry_of xs) ≡ first (line_checks xs)
entry_first xs = refuse_first (ltb longest_line (length xs)) too_long _ _ (λ _. fields_all (split_at 44 xs))

ok_first : {A B E : Type 0} (o : Option A) (e : E) (g : A → Result B E) (cs : List (Option E)) → ((v : A) → result_err (g v) ≡ first cs) → result_err (and_then (ok_or o e) g) ≡ first (unless o e ∷ cs)
ok_first None e g cs h = refl
ok_first (Some v) e g cs h = h v

pub header_first : (xs : Text) → result_err (header_of xs) ≡ first (header_checks xs)
header_first xs =
    refuse_first (ltb longest_line (length xs)) too_long _ _ (λ _.
    refuse_first (not (bytes_eq (word (split_at 44 xs)) (codes "cost"))) (unknown 1) _ _ (λ _.
    ok_first (make_of (word (rest (split_at 44 xs)))) (unknown 2) _ _ (λ _.
    ok_first (labelling_of (word (rest (rest (split_at 44 xs))))) (unknown 3) _ _ (λ _.
    refuse_first (some_left (rest (rest (rest (split_at 44 xs))))) miscounted _ [] (λ _. refl)))))

-- a check after others
first_one : {A : Type 0} (o : Option A) → o ≡ first (o ∷ [])
first_one None = refl
first_one (Some x) = refl

first_then : {A : Type 0} (os : List (Option A)) (o : Option A) → first os ≡ None → first (os ++ o ∷ []) ≡ o
first_then [] o h = sym (first_one o)
first_then (None ∷ os) o h = first_then os o h
first_then (Some x ∷ os) o h = let z : ◌≡◌ {A = ℕ} 0 1 = cc in absurd (omega arith)

first_stays : {A : Type 0} (os : List (Option A)) (o : Option A) (x : A) → first os ≡ Some x → first (os ++ o ∷ []) ≡ Some x
first_stays [] o x h = let z : ◌≡◌ {A = ℕ} 0 1 = cc in absurd (omega arith)
first_stays (None ∷ os) o x h = first_stays os o x h
first_stays (Some y ∷ os) o x h = h

module _ {C : Type 0} (m : Model C) (price : ℕ → ℕ → C) (G : Lists C) where
  then_draft : (r : Result EntryOf LineFault) (cs : List (Option LineFault)) → result_err r ≡ first cs → result_err (and_then r (λ e. map_err draft_fault (drafted m price G e))) ≡ first (cs ++ draft_check m price G r ∷ [])
  then_draft (Ok e) cs h = err_map draft_fault (drafted m price G e) ∙ sym (first_then cs _ (sym h))
  then_draft (Err f) cs h = sym (first_stays cs _ f (sym h))

  pub taken_first : (xs : Text) → result_err (taken m price G xs) ≡ first (all_checks m price G xs)
  taken_first xs = then_draft (entry_of xs) (line_checks xs) (entry_first xs)
