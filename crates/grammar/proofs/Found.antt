-- What a look-up finds is declared, so the rules that are made of it fit.
use Rattle.std.proofs.Common.{◌≡◌, ℕ, zero, suc, ◌<◌, ◌≤◌, true, false, eqb, ltb, List, [], ◌∷◌, length, Some, None, Ok, Option, unwrap_or, sym, refl, ap, ◌∙◌, subst, arith}
use Rattle.std.specs.List.{slice_get}
use Rattle.std.specs.Option.{ok_or, option_map}
use Rattle.std.proofs.lemmas.Bool.{and_from, lt-ltb, eq-eqb, not_from_false}
use Rattle.std.proofs.lemmas.Bool.Decides.{nat_tests}
use Rattle.grammar.specs.Drafting.{find_nonterminal, find_operator, find_kid, kids_of, base_form}
use Rattle.grammar.specs.Fits.{has_kids, takes, form_fits, rule_fits, kids_fit}
use Rattle.grammar.specs.Lists.{Text, OperatorOf, FormOf, chain, base0, base1, base2, Lists}
use Rattle.grammar.specs.declared.refusal.Part.{Part}
use Rattle.grammar.specs.declared.refusal.Part.TheVariants.{Left, Source, FirstKid, SecondKid}
use Rattle.grammar.specs.declared.refusal.DraftRefusal.{DraftRefusal}
use Rattle.grammar.proofs.Fitting.{kids_at}
use Rattle.grammar.proofs.Places.{place_below}

-- a number below n, where there is one
abbrev Below : ℕ → Option ℕ → Type 0
Below n None = Unit {0}
Below n (Some a) = a < n

ok_some : (o : Option ℕ) (e : DraftRefusal) (x : ℕ) → ok_or o e ≡ Ok x → o ≡ Some x
ok_some None e x h = let z : ◌≡◌ {A = ℕ} 0 1 = cc in absurd (omega arith)
ok_some (Some y) e x h = cc

module _ {C : Type 0} (G : Lists C) where
  pub found_below : (part : Part) (x : Text) (l : ℕ) → find_nonterminal G part x ≡ Ok l → l < length G.nonterminals
  found_below part x l h = omega (arith, place_below (λ (t : Text). t) 0 x G.nonterminals l (ok_some _ _ l h))

  kid_below : (part : Part) (o : Option Text) (a : Option ℕ) → find_kid G part o ≡ Ok a → Below (length G.nonterminals) a
  kid_below part None None h = tt
  kid_below part None (Some a) h = let z : ◌≡◌ {A = ℕ} 0 1 = cc in absurd (omega arith)
  kid_below part (Some x) None h = tt
  kid_below part (Some x) (Some a) h = found_below part x a (grind arith)

some_below : {A : Type 0} (xs : List A) (i : ℕ) → i < length xs → slice_get xs i ≡ None → ⊥
some_below [] i h e = omega arith
some_below (x ∷ xs) zero h e = let z : ◌≡◌ {A = ℕ} 0 1 = cc in omega arith
some_below (x ∷ xs) (suc i) h e = some_below xs i (omega arith) e

takes_kids : (ops : List OperatorOf) (o : ℕ) (x : OperatorOf) → slice_get ops o ≡ Some x → takes ops o x.kids ≡ true
takes_kids ops o x e = ap (has_kids x.kids) e ∙ eq-eqb x.kids x.kids refl

module _ (ops : List OperatorOf) (n left o k : ℕ) (t : takes ops o k ≡ true) (few : k ≤ 2) where
  takes_as : (j : ℕ) → k ≡ j → takes ops o j ≡ true
  takes_as j e = let P : ℕ → Type 0 = λ i. takes ops o i ≡ true in subst P e t

  fits_as : (e f : FormOf) → e ≡ f → form_fits ops n left e ≡ true → form_fits ops n left f ≡ true
  fits_as e f same h = let P : FormOf → Type 0 = λ x. form_fits ops n left x ≡ true in subst P same h

  base_fits : (a b : Option ℕ) (f : FormOf) → Below n a → Below n b → base_form o k a b ≡ Ok f → form_fits ops n left f ≡ true
  base_fits None None f p q h = fits_as (base0 o) f (grind (arith, nat_tests)) (takes_as 0 (grind (arith, nat_tests)))
  base_fits None (Some b) f p q h = let z : ◌≡◌ {A = ℕ} 0 1 = grind (arith, nat_tests) in absurd (omega arith)
  base_fits (Some a) None f p q h =
      fits_as (base1 o a) f (grind (arith, nat_tests)) (and_from _ _ (takes_as 1 (grind (arith, nat_tests))) (lt-ltb a n p))
  base_fits (Some a) (Some b) f p q h =
      fits_as (base2 o a b) f (grind (arith, nat_tests)) (and_from _ _ (takes_as 2 (grind (arith, nat_tests))) (and_from _ _ (lt-ltb a n p) (lt-ltb b n q)))

module _ {C : Type 0} (G : Lists C) where
  found_takes : (x : Text) (o : ℕ) (k : kids_fit G.operators ≡ true) → find_operator G x ≡ Ok o → (takes G.operators o (kids_of G o) ≡ true) × (kids_of G o ≤ 2)
  found_takes x o k h =
      let below : o < length G.operators = omega (arith, place_below (λ (y : OperatorOf). y.name) 0 x G.operators o (ok_some _ _ o h)) in
      at (slice_get G.operators o) refl below where
        at : (y : Option OperatorOf) → slice_get G.operators o ≡ y → o < length G.operators → (takes G.operators o (kids_of G o) ≡ true) × (kids_of G o ≤ 2)
        at None e below = absurd (some_below G.operators o below e)
        at (Some y) e below =
            let same : y.kids ≡ kids_of G o = sym (ap (λ z. unwrap_or (option_map (λ (w : OperatorOf). w.kids) z) 0) e) in
            let P : ℕ → Type 0 = λ j. (takes G.operators o j ≡ true) × (j ≤ 2) in
            subst P same (takes_kids G.operators o y e, kids_at G.operators o y k e)

module _ {C : Type 0} (G : Lists C) (n : ℕ) (count : length G.nonterminals ≡ n) where
  left_fits : (part : Part) (x : Text) (l : ℕ) → find_nonterminal G part x ≡ Ok l → ltb l n ≡ true
  left_fits part x l h = lt-ltb l n (omega (arith, found_below G part x l h))

  -- a chain rule between nonterminals that were found
  pub chain_fits : (left source : Text) (l s : ℕ) (cost : C) (mnemonic : Text) → Ok l ≡ find_nonterminal G Left left → Ok s ≡ find_nonterminal G Source source → eqb s l ≡ false → rule_fits G.operators n (record { left = l; form = chain s; cost = cost; mnemonic = mnemonic }) ≡ true
  chain_fits left source l s cost mnemonic hl hs h =
      and_from _ _ (left_fits Left left l (sym hl)) (and_from _ _ (left_fits Source source s (sym hs)) (not_from_false _ h))

  below_as : (a : Option ℕ) → Below (length G.nonterminals) a → Below n a
  below_as a h = let P : ℕ → Type 0 = λ k. Below k a in subst P count h

  -- a base rule whose parts were found
  pub base_rule_fits : (left op : Text) (first second : Option Text) (l o : ℕ) (a b : Option ℕ) (f : FormOf) (cost : C) (mnemonic : Text) → kids_fit G.operators ≡ true → Ok l ≡ find_nonterminal G Left left → Ok o ≡ find_operator G op → Ok a ≡ find_kid G FirstKid first → Ok b ≡ find_kid G SecondKid second → Ok f ≡ base_form o (kids_of G o) a b → rule_fits G.operators n (record { left = l; form = f; cost = cost; mnemonic = mnemonic }) ≡ true
  base_rule_fits left op first second l o a b f cost mnemonic k hl ho ha hb hf =
      let t = found_takes G op o k (sym ho) in
      and_from _ _ (left_fits Left left l (sym hl)) (base_fits G.operators n l o (kids_of G o) t.0 t.1 a b f (below_as a (kid_below G FirstKid first a (sym ha))) (below_as b (kid_below G SecondKid second b (sym hb))) (sym hf))
