-- The rounds over the chain rules come to the least rank of all runs.
use Rattle.std.proofs.Common.{◌≡◌, ℕ, zero, suc, pred, ◌+◌, ◌<◌, ◌≤◌, ◌⊎◌, List, [], ◌∷◌, length, Some, None, Option, sym, refl, ap, ◌∙◌, subst, inl, inr, arith}
use Rattle.std.proofs.lemmas.List.{length-set}
use Rattle.std.proofs.lemmas.Bool.{cases_eq}
use Rattle.std.specs.List.{slice_get}
use Rattle.cost.specs.Model.{Model, Laws}
use Rattle.grammar.specs.Lists.{FormOf, chain, base0, base1, base2, RuleOf, Lists, numbered, rule, Sealed}
use Rattle.covers.specs.Trees.{count}
use Rattle.covers.specs.Covers.{cost_or_zero, rule_source, form_source, rule_cost, source, RuleIs, Apart, on_run, Run}
use Rattle.covers.specs.Ranks.{Rank, Ranks, by_rank, at, up, further, better, relax, chain_offer, round, rounds}
use Rattle.covers.specs.Rounds.{over, Light, Closes}
use Rattle.covers.proofs.Order.{Lt, rank_order, lt_le, le_refl, irrefl}
use Rattle.covers.proofs.Within.{Fair, up_le, up_grows}
use Rattle.covers.proofs.Relaxing.{Under, some_is, none_some, under_trans, relax_old, relax_new, relax_is}
use Rattle.covers.proofs.Runs.{cost_bounds, rule_cost_bounds, run_short, run_rest, run_fair}

-- along a run, the row is at most what each rest of the run comes to
abbrev pub AlongRun : {C : Type 0} → Model C → Lists C → Ranks C → List ℕ → ℕ → Rank C → Type 0
AlongRun m G row [] n p = Under m (at row n) p
AlongRun m G row (r ∷ rs) n p = Under m (at row n) (over m G (r ∷ rs) p) × AlongRun m G row rs (source G r) p

-- q stands for a run from n over b
pub record ByRun {C : Type 0} (m : Model C) (G : Lists C) (b row : Ranks C) (n : ℕ) (q : Rank C) : Type 0 where
  pub rs : List ℕ
  pub e : ℕ
  pub p : Rank C
  pub run : Run G rs n e
  pub ends : at b e ≡ Some p
  pub is : over m G rs p ≡ q
  pub along_run : AlongRun m G row rs n p

pub record Held {C : Type 0} (m : Model C) (G : Lists C) (b row : Ranks C) : Type 0 where
  pub long : length row ≡ count G
  pub held : (n : ℕ) (q : Rank C) → at row n ≡ Some q → ByRun m G b row n q

pub along_run_down : {C : Type 0} (m : Model C) (G : Lists C) (row row' : Ranks C) → ((k : ℕ) (q : Rank C) → Under m (at row k) q → Under m (at row' k) q) → (rs : List ℕ) (n : ℕ) (p : Rank C) → AlongRun m G row rs n p → AlongRun m G row' rs n p
along_run_down m G row row' f [] n p h = f n p h
along_run_down m G row row' f (r ∷ rs) n p h = (f n (over m G (r ∷ rs) p) h.0, along_run_down m G row row' f rs (source G r) p h.1)

pub further_some : {C : Type 0} (m : Model C) (c : C) (o : Option (Rank C)) (q : Rank C) → further m c o ≡ Some q → (x : Rank C) × (o ≡ Some x) × (up m c x ≡ q)
further_some m c None q h = absurd (none_some q h)
further_some m c (Some x) q h = (x, refl, some_is (up m c x) q h)

-- every rule of the list has a number
abbrev pub Numbered : {C : Type 0} → Lists C → List (RuleOf C) → Type 0
Numbered {C} G ρs = (i : ℕ) (ρ : RuleOf C) → slice_get ρs i ≡ Some ρ → (r : ℕ) × (rule G r ≡ Some ρ)

-- and the rule of a number is in the list
pub number_at : {C : Type 0} (ρs : List (RuleOf C)) (r : ℕ) (ρ : RuleOf C) → numbered ρs r ≡ Some ρ → (i : ℕ) × (slice_get ρs i ≡ Some ρ)
number_at ρs zero ρ e = absurd (none_some ρ e)
number_at ρs (suc i) ρ e = (i, e)

module _ {C : Type 0} {m : Model C} (l : Laws m) {G : Lists C} (sealed : Sealed m G) (b : Ranks C) (small : Light m b) where
  pub by_run_fair : (row : Ranks C) (n : ℕ) (q : Rank C) → ByRun m G b row n q → Fair m q.0
  by_run_fair row n q w = subst (λ z. Fair m z.0) w.is (run_fair sealed l w.rs n w.e w.p w.run (small w.e w.p w.ends))

  pub held_fair : (row : Ranks C) → Held m G b row → (n : ℕ) (q : Rank C) → at row n ≡ Some q → Fair m q.0
  held_fair row h n q e = by_run_fair row n q (h.held n q e)

  -- n is on no run, or the row is at most that run there
  pub apart_or_under : (row : Ranks C) (n : ℕ) (rs : List ℕ) (s e : ℕ) (p : Rank C) → Run G rs s e → at b e ≡ Some p → AlongRun m G row rs s p → Apart n (on_run G rs s) ⊎ Under m (at row n) (over m G rs p)
  apart_or_under row n [] s e p run ends t = elim (cases_eq n s) [ inl h ↦ inr (subst (λ z. Under m (at row z) p) (sym h) t) | inr h ↦ inl (h, tt) ]
  apart_or_under row n (r ∷ rs) s e p run ends t = elim (cases_eq n s) [
    | inl h ↦ inr (subst (λ z. Under m (at row z) (over m G (r ∷ rs) p)) (sym h) t.0)
    | inr h ↦ elim (apart_or_under row n rs (source G r) e p (run_rest sealed r rs s e run) ends t.1) [
      | inl k ↦ inl (h, k)
      | inr k ↦ inr (under_trans l (at row n) (over m G rs p) (over m G (r ∷ rs) p) k (lt_le (rank_order l) (over m G rs p) (over m G (r ∷ rs) p) (up_grows l (over m G rs p) (rule_cost m G r) (run_fair sealed l rs (source G r) e p (run_rest sealed r rs s e run) (small e p ends)) (rule_cost_bounds sealed r s (chain (source G r)) run.linked.0))))
    ]
  ]

  -- one rule more before a way
  by_run_more : (row row' : Ranks C) (r : ℕ) (ρ : RuleOf C) (s : ℕ) (x q : Rank C) → rule G r ≡ Some ρ → ρ.form ≡ chain s → up m ρ.cost x ≡ q → ByRun m G b row s x → ((z : Rank C) → Under m (at row ρ.left) z → Lt (by_rank m) q z) → ((k : ℕ) (z : Rank C) → Under m (at row k) z → Under m (at row' k) z) → Under m (at row' ρ.left) q → ByRun m G b row' ρ.left q
  by_run_more row row' r ρ s x q stands formed made w below down new =
      let source_is : source G r ≡ s = ap rule_source stands ∙ ap form_source formed in
      let price-is : rule_cost m G r ≡ ρ.cost = ap (cost_or_zero m) stands in
      let run : Run G w.rs (source G r) w.e = subst (λ z. Run G w.rs z w.e) (sym source_is) w.run in
      let along_run : AlongRun m G row w.rs (source G r) w.p = subst (λ z. AlongRun m G row w.rs z w.p) (sym source_is) w.along_run in
      let is : over m G (r ∷ w.rs) w.p ≡ q = (λ i. up m (price-is i) (w.is i)) ∙ made in
      let apart : Apart ρ.left (on_run G w.rs (source G r)) = elim (apart_or_under row ρ.left w.rs (source G r) w.e w.p run w.ends along_run) [
        | inl h ↦ h
        | inr h ↦ absurd (irrefl (rank_order l) x ((rank_order l).trans x q x (subst (Lt (by_rank m) x) made (up_grows l x ρ.cost (by_run_fair row s x w) (cost_bounds sealed r ρ stands))) (below x (subst (Under m (at row ρ.left)) w.is h))))
      ] in
      record {
        rs = r ∷ w.rs;
        e = w.e;
        p = w.p;
        run = record { linked = (record { ρ = ρ; stands = stands; from = refl; formed = formed ∙ ap chain (sym source_is) }, run.linked); simple = (apart, run.simple) };
        ends = w.ends;
        is = is;
        along_run = (subst (Under m (at row' ρ.left)) (sym is) new, along_run_down m G row row' down w.rs (source G r) w.p along_run);
      }

  module _ (row : Ranks C) (h : Held m G b row) (r : ℕ) (ρ : RuleOf C) (stands : rule G r ≡ Some ρ) where
    inside : ρ.left < length row
    inside = subst (λ z. ρ.left < z) (sym h.long) (sealed.declared.left_declared r ρ stands)

    by_run_new : (sh : FormOf) → ρ.form ≡ sh → (q : Rank C) → chain_offer m row ρ.cost sh ≡ Some q → ((z : Rank C) → Under m (at row ρ.left) z → Lt (by_rank m) q z) → ByRun m G b (relax m row ρ.left (chain_offer m row ρ.cost sh)) ρ.left q
    by_run_new (chain s) formed q made below =
        let f = further_some m ρ.cost (at row s) q made in
        let o = chain_offer m row ρ.cost (chain s) in
        by_run_more row (relax m row ρ.left o) r ρ s f.0 q stands formed f.2 (h.held s f.0 f.1) below (relax_old l row ρ.left o inside) (relax_new l row ρ.left o inside q (subst (λ z. Under m z q) (sym made) (le_refl (rank_order l) q)))
    by_run_new (base0 o) formed q made below = absurd (none_some q made)
    by_run_new (base1 o a) formed q made below = absurd (none_some q made)
    by_run_new (base2 o a c) formed q made below = absurd (none_some q made)

    abbrev relaxed : Ranks C
    relaxed = relax m row ρ.left (chain_offer m row ρ.cost ρ.form)

    pub down_relax : (k : ℕ) (q : Rank C) → Under m (at row k) q → Under m (at relaxed k) q
    down_relax = relax_old l row ρ.left (chain_offer m row ρ.cost ρ.form) inside

    pub held_relax : Held m G b relaxed
    held_relax = record {
      long = length-set row ρ.left (better m (at row ρ.left) (chain_offer m row ρ.cost ρ.form)) ∙ h.long;
      held = λ k q e. elim (relax_is l row ρ.left (chain_offer m row ρ.cost ρ.form) inside k q e) [
        | inl o ↦ (let w = h.held k q o in record { rs = w.rs; e = w.e; p = w.p; run = w.run; ends = w.ends; is = w.is; along_run = along_run_down m G row relaxed down_relax w.rs k w.p w.along_run })
        | inr o ↦ subst (λ z. ByRun m G b relaxed z q) (sym o.0) (by_run_new ρ.form refl q o.1 o.2)
      ];
    }

    further_under : (c : C) (o : Option (Rank C)) (q : Rank C) → ((x : Rank C) → o ≡ Some x → Fair m x.0) → Fair m q.0 → Fair m c → Under m o q → Under m (further m c o) (up m c q)
    further_under c None q f g w u = u
    further_under c (Some x) q f g w u = up_le l x q c (f x refl) g w u

    pub relax_does : (s : ℕ) (q : Rank C) → ρ.form ≡ chain s → Fair m q.0 → Under m (at row s) q → Under m (at relaxed ρ.left) (up m ρ.cost q)
    relax_does s q formed f u =
        let p = (cost_bounds sealed r ρ stands).light in
        let offer : Under m (chain_offer m row ρ.cost ρ.form) (up m ρ.cost q) = subst (λ z. Under m (chain_offer m row ρ.cost z) (up m ρ.cost q)) (sym formed) (further_under ρ.cost (at row s) q (held_fair row h s) f (omega arith) u) in
        relax_new l row ρ.left (chain_offer m row ρ.cost ρ.form) inside (up m ρ.cost q) offer

  pub held_round : (ρs : List (RuleOf C)) → Numbered G ρs → (row : Ranks C) → Held m G b row → Held m G b (round m row ρs)
  held_round [] all row h = h
  held_round (ρ ∷ ρs) all row h =
      let n = all 0 ρ refl in
      held_round ρs (λ i. all (suc i)) (relax m row ρ.left (chain_offer m row ρ.cost ρ.form)) (held_relax row h n.0 ρ n.1)

  pub down_round : (ρs : List (RuleOf C)) → Numbered G ρs → (row : Ranks C) → Held m G b row → (k : ℕ) (q : Rank C) → Under m (at row k) q → Under m (at (round m row ρs) k) q
  down_round [] all row h k q u = u
  down_round (ρ ∷ ρs) all row h k q u =
      let n = all 0 ρ refl in
      down_round ρs (λ i. all (suc i)) (relax m row ρ.left (chain_offer m row ρ.cost ρ.form)) (held_relax row h n.0 ρ n.1) k q (down_relax row h n.0 ρ n.1 k q u)

  round_does : (ρs : List (RuleOf C)) → Numbered G ρs → (row : Ranks C) → Held m G b row → (i : ℕ) (ρ : RuleOf C) (s : ℕ) (q : Rank C) → slice_get ρs i ≡ Some ρ → ρ.form ≡ chain s → Fair m q.0 → Under m (at row s) q → Under m (at (round m row ρs) ρ.left) (up m ρ.cost q)
  round_does [] all row h i ρ s q e formed f u = absurd (none_some ρ e)
  round_does (x ∷ ρs) all row h zero ρ s q e formed f u =
      let n = all 0 x refl in
      let same : x ≡ ρ = some_is x ρ e in
      let next = relax m row x.left (chain_offer m row x.cost x.form) in
      let here : Under m (at next x.left) (up m x.cost q) = relax_does row h n.0 x n.1 s q (ap (λ z. z.form) same ∙ formed) f u in
      subst (λ z. Under m (at (round m row (x ∷ ρs)) z.left) (up m z.cost q)) same (down_round ρs (λ j. all (suc j)) next (held_relax row h n.0 x n.1) x.left (up m x.cost q) here)
  round_does (x ∷ ρs) all row h (suc i) ρ s q e formed f u =
      let n = all 0 x refl in
      round_does ρs (λ j. all (suc j)) (relax m row x.left (chain_offer m row x.cost x.form)) (held_relax row h n.0 x n.1) i ρ s q e formed f (down_relax row h n.0 x n.1 s q u)

  -- the row is at most every run of at most k rules
  abbrev pub Ahead : ℕ → Ranks C → Type 0
  Ahead k row = (rs : List ℕ) (n e : ℕ) (p : Rank C) → length rs ≤ k → Run G rs n e → at b e ≡ Some p → Under m (at row n) (over m G rs p)

  abbrev all_numbered : Numbered G G.rules
  all_numbered i ρ e = (suc i, e)

  ahead_more : (k : ℕ) (row : Ranks C) → Held m G b row → Ahead k row → Ahead (suc k) (round m row G.rules)
  ahead_more k row h a [] n e p s run ends = down_round G.rules all_numbered row h n p (a [] n e p (omega arith) run ends)
  ahead_more k row h a (r ∷ rs) n e p s run ends =
      let i = run.linked.0 in
      let rest = run_rest sealed r rs n e run in
      let place = number_at G.rules r i.ρ i.stands in
      let u : Under m (at row (source G r)) (over m G rs p) = a rs (source G r) e p (omega arith) rest ends in
      let done : Under m (at (round m row G.rules) i.ρ.left) (up m i.ρ.cost (over m G rs p)) = round_does G.rules all_numbered row h place.0 i.ρ (source G r) (over m G rs p) place.1 i.formed (run_fair sealed l rs (source G r) e p rest (small e p ends)) u in
      subst (λ z. Under m (at (round m row G.rules) n) (up m z (over m G rs p))) (sym (ap (cost_or_zero m) i.stands)) (subst (λ z. Under m (at (round m row G.rules) z) (up m i.ρ.cost (over m G rs p))) i.from done)

  pub held_rounds : (j : ℕ) (row : Ranks C) → Held m G b row → Held m G b (rounds m j row G.rules)
  held_rounds zero row h = h
  held_rounds (suc j) row h = held_rounds j (round m row G.rules) (held_round G.rules all_numbered row h)

  ahead_rounds : (j k : ℕ) (row : Ranks C) → Held m G b row → Ahead k row → Ahead (k + j) (rounds m j row G.rules)
  ahead_rounds zero k row h a rs n e p s run ends = a rs n e p (omega arith) run ends
  ahead_rounds (suc j) k row h a rs n e p s run ends = ahead_rounds j (suc k) (round m row G.rules) (held_round G.rules all_numbered row h) (ahead_more k row h a) rs n e p (omega arith) run ends

  ahead_none : Ahead 0 b
  ahead_none [] n e p s run ends = subst (λ z. Under m (at b z) p) (sym run.linked) (subst (λ z. Under m z p) (sym ends) (le_refl (rank_order l) p))
  ahead_none (r ∷ rs) n e p s run ends = absurd (omega arith)

  pub held_none : length b ≡ count G → Held m G b b
  held_none long = record {
    long = long;
    held = λ n q e. record { rs = []; e = n; p = q; run = record { linked = refl; simple = (tt, tt) }; ends = e; is = refl; along_run = subst (λ z. Under m z q) (sym e) (le_refl (rank_order l) q) };
  }

  abbrev pub closed : Ranks C
  closed = rounds m (pred (count G)) b G.rules

  module _ (long : length b ≡ count G) where
    pub closed_held : Held m G b closed
    closed_held = held_rounds (pred (count G)) b (held_none long)

    pub closed_ahead : (rs : List ℕ) (n e : ℕ) (p : Rank C) → Run G rs n e → at b e ≡ Some p → Under m (at closed n) (over m G rs p)
    closed_ahead rs n e p run ends = ahead_rounds (pred (count G)) 0 b (held_none long) ahead_none rs n e p (omega (arith, run_short sealed rs n e run)) run ends

    -- no chain rule improves the row
    pub closed_step : (r n s : ℕ) (x : Rank C) → RuleIs G r n (chain s) → at closed s ≡ Some x → Under m (at closed n) (up m (rule_cost m G r) x)
    closed_step r n s x i o =
        let w = closed_held.held s x o in
        let source_is : source G r ≡ s = ap rule_source i.stands ∙ ap form_source i.formed in
        let run : Run G w.rs (source G r) w.e = subst (λ z. Run G w.rs z w.e) (sym source_is) w.run in
        let along_run : AlongRun m G closed w.rs (source G r) w.p = subst (λ z. AlongRun m G closed w.rs z w.p) (sym source_is) w.along_run in
        elim (apart_or_under closed n w.rs (source G r) w.e w.p run w.ends along_run) [
          | inl h ↦ subst (λ z. Under m (at closed n) (up m (rule_cost m G r) z)) w.is (closed_ahead (r ∷ w.rs) n w.e w.p (record { linked = (record { ρ = i.ρ; stands = i.stands; from = i.from; formed = i.formed ∙ ap chain (sym source_is) }, run.linked); simple = (h, run.simple) }) w.ends)
          | inr h ↦ under_trans l (at closed n) x (up m (rule_cost m G r) x) (subst (Under m (at closed n)) w.is h) (lt_le (rank_order l) x (up m (rule_cost m G r) x) (up_grows l x (rule_cost m G r) (by_run_fair closed s x w) (rule_cost_bounds sealed r n (chain s) i)))
        ]

    pub closes : Closes m G b closed
    closes = record {
      none = λ n o rs e p run ends. subst (λ z. Under m z (over m G rs p)) o (closed_ahead rs n e p run ends);
      some = λ n q o. (let w = closed_held.held n q o in (w.rs, w.e, w.p, w.run, w.ends, w.is));
      least = λ n q o rs e p run ends. subst (λ z. Under m z (over m G rs p)) o (closed_ahead rs n e p run ends);
    }

pub stay : {C : Type 0} (m : Model C) (G : Lists C) (row : Ranks C) (k : ℕ) → round m row G.rules ≡ row → rounds m k row G.rules ≡ row
stay m G row zero e = refl
stay m G row (suc k) e = subst (λ z. rounds m k z G.rules ≡ z) (sym e) (stay m G row k e) ∙ e

rounds_split : {C : Type 0} (m : Model C) (G : Lists C) (row : Ranks C) (j k : ℕ) → rounds m k (rounds m j row G.rules) G.rules ≡ rounds m (j + k) row G.rules
rounds_split m G row zero k = ap (λ z. rounds m z row G.rules) (sym (native.Mathlib.Nat.zero-add k))
rounds_split m G row (suc j) k =
    let e : suc (j + k) ≡ suc j + k = omega arith in
    rounds_split m G (round m row G.rules) j k ∙ ap (λ z. rounds m z row G.rules) e

pub stops_early : {C : Type 0} (m : Model C) (G : Lists C) (row : Ranks C) (j k : ℕ) → round m (rounds m j row G.rules) G.rules ≡ rounds m j row G.rules → rounds m (j + k) row G.rules ≡ rounds m j row G.rules
stops_early m G row j k e = sym (rounds_split m G row j k) ∙ stay m G (rounds m j row G.rules) k e
