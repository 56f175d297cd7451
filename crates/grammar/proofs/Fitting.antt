-- Rules go on fitting as declarations grow, and what fitting means.
use Rattle.std.proofs.Common.{◌≡◌, ℕ, zero, suc, ◌+◌, ◌≤◌, true, ltb, List, [], ◌∷◌, ◌++◌, length, Some, refl, ap, subst, arith}
use Rattle.std.specs.List.{slice_get}
use Rattle.std.proofs.lemmas.Bool.{false≢true, not-true, and_parts, and_from, ltb-true, leb-true, eqb-true, eqb-false}
use Rattle.std.proofs.lemmas.Bool.Decides.{nat_tests}
use Rattle.grammar.specs.Lists.{OperatorOf, FormOf, chain, base0, base1, base2, RuleOf, Lists, numbered, rule, Takes, FormFits, Declared}
use Rattle.grammar.specs.Fits.{takes, form_fits, rule_fits, rules_fit, kids_fit}

takes_more : (ops : List OperatorOf) (x : OperatorOf) (o k : ℕ) → takes ops o k ≡ true → takes (ops ++ x ∷ []) o k ≡ true
takes_more [] x o k h = absurd (false≢true h)
takes_more (y ∷ ops) x zero k h = h
takes_more (y ∷ ops) x (suc o) k h = takes_more ops x o k h

ltb_more : (a n : ℕ) → ltb a n ≡ true → ltb a (n + 1) ≡ true
ltb_more a n h = grind (arith, nat_tests)

-- one operator or nonterminal more
form_operator : (ops : List OperatorOf) (x : OperatorOf) (n left : ℕ) (f : FormOf) → form_fits ops n left f ≡ true → form_fits (ops ++ x ∷ []) n left f ≡ true
form_operator ops x n left (chain s) h = h
form_operator ops x n left (base0 o) h = takes_more ops x o 0 h
form_operator ops x n left (base1 o a) h = let p = and_parts _ _ h in and_from _ _ (takes_more ops x o 1 p.0) p.1
form_operator ops x n left (base2 o a b) h = let p = and_parts _ _ h in and_from _ _ (takes_more ops x o 2 p.0) p.1

form_nonterminal : (ops : List OperatorOf) (n left : ℕ) (f : FormOf) → form_fits ops n left f ≡ true → form_fits ops (n + 1) left f ≡ true
form_nonterminal ops n left (chain s) h = let p = and_parts _ _ h in and_from _ _ (ltb_more s n p.0) p.1
form_nonterminal ops n left (base0 o) h = h
form_nonterminal ops n left (base1 o a) h = let p = and_parts _ _ h in and_from _ _ p.0 (ltb_more a n p.1)
form_nonterminal ops n left (base2 o a b) h =
    let p = and_parts _ _ h in
    let q = and_parts _ _ p.1 in
    and_from _ _ p.0 (and_from _ _ (ltb_more a n q.0) (ltb_more b n q.1))

module _ {C : Type 0} where
  pub fit_operator : (ops : List OperatorOf) (x : OperatorOf) (n : ℕ) (ρs : List (RuleOf C)) → rules_fit ops n ρs ≡ true → rules_fit (ops ++ x ∷ []) n ρs ≡ true
  unfolding rules_fit
  fit_operator ops x n [] h = refl
  fit_operator ops x n (ρ ∷ ρs) h =
      let p = and_parts _ _ h in
      let q = and_parts _ _ p.0 in
      and_from _ _ (and_from _ _ q.0 (form_operator ops x n ρ.left ρ.form q.1)) (fit_operator ops x n ρs p.1)

  pub fit_nonterminal : (ops : List OperatorOf) (n : ℕ) (ρs : List (RuleOf C)) → rules_fit ops n ρs ≡ true → rules_fit ops (n + 1) ρs ≡ true
  unfolding rules_fit
  fit_nonterminal ops n [] h = refl
  fit_nonterminal ops n (ρ ∷ ρs) h =
      let p = and_parts _ _ h in
      let q = and_parts _ _ p.0 in
      and_from _ _ (and_from _ _ (ltb_more ρ.left n q.0) (form_nonterminal ops n ρ.left ρ.form q.1)) (fit_nonterminal ops n ρs p.1)

  pub fit_rule : (ops : List OperatorOf) (n : ℕ) (ρs : List (RuleOf C)) (ρ : RuleOf C) → rules_fit ops n ρs ≡ true → rule_fits ops n ρ ≡ true → rules_fit ops n (ρs ++ ρ ∷ []) ≡ true
  unfolding rules_fit
  fit_rule ops n [] ρ h g = and_from _ _ g refl
  fit_rule ops n (σ ∷ ρs) ρ h g = let p = and_parts _ _ h in and_from _ _ p.0 (fit_rule ops n ρs ρ p.1 g)

  pub fit_none : (ops : List OperatorOf) (n : ℕ) (ρs : List (RuleOf C)) → ρs ≡ [] → rules_fit ops n ρs ≡ true
  unfolding rules_fit
  fit_none ops n ρs e = ap (rules_fit ops n) e

pub kids_push : (ops : List OperatorOf) (x : OperatorOf) → kids_fit ops ≡ true → x.kids ≤ 2 → kids_fit (ops ++ x ∷ []) ≡ true
unfolding kids_fit
kids_push [] x h g = grind (arith, nat_tests)
kids_push (y ∷ ops) x h g = let p = and_parts _ _ h in and_from _ _ p.0 (kids_push ops x p.1 g)

pub kids_none : (ops : List OperatorOf) → ops ≡ [] → kids_fit ops ≡ true
unfolding kids_fit
kids_none ops e = ap kids_fit e

-- what the tests say
takes_says : (ops : List OperatorOf) (o k : ℕ) → takes ops o k ≡ true → Takes ops o k
takes_says [] o k h = absurd (false≢true h)
takes_says (x ∷ ops) zero k h = ap Some (eqb-true x.kids k h)
takes_says (x ∷ ops) (suc o) k h = takes_says ops o k h

pub form_says : (ops : List OperatorOf) (n left : ℕ) (f : FormOf) → form_fits ops n left f ≡ true → FormFits ops n left f
form_says ops n left (chain s) h = let p = and_parts _ _ h in (ltb-true s n p.0, eqb-false s left (not-true _ p.1))
form_says ops n left (base0 o) h = takes_says ops o 0 h
form_says ops n left (base1 o a) h = let p = and_parts _ _ h in (takes_says ops o 1 p.0, ltb-true a n p.1)
form_says ops n left (base2 o a b) h =
    let p = and_parts _ _ h in
    let q = and_parts _ _ p.1 in
    (takes_says ops o 2 p.0, ltb-true a n q.0, ltb-true b n q.1)

pub kids_at : (ops : List OperatorOf) (o : ℕ) (x : OperatorOf) → kids_fit ops ≡ true → slice_get ops o ≡ Some x → x.kids ≤ 2
unfolding kids_fit
kids_at [] o x h e = let z : ◌≡◌ {A = ℕ} 0 1 = cc in omega arith
kids_at (y ∷ ops) zero x h e =
    let same : y ≡ x = cc in
    let P : OperatorOf → Type 0 = λ z. z.kids ≤ 2 in
    subst P same (leb-true y.kids 2 (and_parts _ _ h).0)
kids_at (y ∷ ops) (suc o) x h e = let p = and_parts _ _ h in kids_at ops o x p.1 e

module _ {C : Type 0} where
  fit_at : (ops : List OperatorOf) (n : ℕ) (ρs : List (RuleOf C)) (r : ℕ) (ρ : RuleOf C) → rules_fit ops n ρs ≡ true → numbered ρs r ≡ Some ρ → rule_fits ops n ρ ≡ true
  unfolding rules_fit
  fit_at ops n ρs zero ρ h e = let z : ◌≡◌ {A = ℕ} 0 1 = cc in absurd (omega arith)
  fit_at ops n [] (suc i) ρ h e = let z : ◌≡◌ {A = ℕ} 0 1 = cc in absurd (omega arith)
  fit_at ops n (σ ∷ ρs) (suc zero) ρ h e =
      let same : σ ≡ ρ = cc in
      let P : RuleOf C → Type 0 = λ x. rule_fits ops n x ≡ true in
      subst P same (and_parts _ _ h).0
  fit_at ops n (σ ∷ ρs) (suc (suc i)) ρ h e = let p = and_parts _ _ h in fit_at ops n ρs (suc i) ρ p.1 e

  pub declared : (G : Lists C) → length G.operators ≤ 64 → length G.nonterminals ≤ 32 → length G.rules ≤ 256 → kids_fit G.operators ≡ true → rules_fit G.operators (length G.nonterminals) G.rules ≡ true → Declared G
  declared G o n r k f =
      let fit = λ (i : ℕ) (ρ : RuleOf C) (e : rule G i ≡ Some ρ). and_parts _ _ (fit_at G.operators (length G.nonterminals) G.rules i ρ f e) in
      record {
        few_operators = o;
        few_nonterminals = n;
        few_rules = r;
        few_kids = λ i x e. kids_at G.operators i x k e;
        left_declared = λ i ρ e. ltb-true ρ.left (length G.nonterminals) (fit i ρ e).0;
        form_fits = λ i ρ e. form_says G.operators (length G.nonterminals) ρ.left ρ.form (fit i ρ e).1;
      }
