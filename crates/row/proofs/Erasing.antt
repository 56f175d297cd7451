-- Without the rules' numbers, the work places hold the ranks as they are defined.
use Rattle.std.proofs.Common.{◌≡◌, ℕ, zero, suc, pred, ◌+◌, ◌-◌, ◌*◌, ◌≤◌, Bool, true, false, cond, ◌⊎◌, List, [], ◌∷◌, map, length, set, replicate, Some, None, Option, sym, refl, ap, ◌∙◌, subst, inl, inr, arith}
use Rattle.std.proofs.lemmas.List.{map-set, set-get_or}
use Rattle.std.specs.Option.{option_map, option_or}
use Rattle.cost.specs.Model.{Model}
use Rattle.grammar.specs.Lists.{FormOf, chain, base0, base1, base2, RuleOf}
use Rattle.covers.specs.Trees.{Applied}
use Rattle.covers.specs.Ranks.{Rank, Ranks, Best, at, better, further, base_offer, chain_offer, offer, relax, bases, round, rounds}
use Rattle.covers.proofs.Relaxing.{some_is, none_some}
use Rattle.covers.proofs.Shifts.{at_map}
use Rattle.row.specs.Kept.{improves, keep_given, pass, base_gives, more, over_source, chain_gives, times, round_of}
use Rattle.row.specs.Ranked.{rank_part, Few, RanksAre}
use Rattle.row.specs.Views.{kept_of}
use Rattle.row.specs.declared.work.Work.{Work}

abbrev ranks_part : {C : Type 0} → List (Option (Best C)) → Ranks C
ranks_part xs = map rank_part xs

-- every number of chain rules is at most b
abbrev Bounded : {C : Type 0} → ℕ → List (Option (Best C)) → Type 0
Bounded {C} b xs = (n : ℕ) (y : Best C) → at xs n ≡ Some y → y.1 ≤ b

at_set : {A : Type 0} (xs : List (Option A)) (n : ℕ) (x : A) (k : ℕ) (y : A) → at (set xs n (Some x)) k ≡ Some y → (at xs k ≡ Some y) ⊎ (x ≡ y)
at_set [] n x k y e = absurd (none_some y e)
at_set (o ∷ xs) zero x zero y e = inr (some_is x y e)
at_set (o ∷ xs) zero x (suc k) y e = inl e
at_set (o ∷ xs) (suc n) x zero y e = inl e
at_set (o ∷ xs) (suc n) x (suc k) y e = at_set xs n x k y e

module _ {C : Type 0} (m : Model C) where
  keep_by : (xs : List (Option (Best C))) (n r : ℕ) (p : Rank C) (o : Option (Best C)) → at xs n ≡ o → (b : Bool) → improves m (p.0, p.1, r) o ≡ b → map rank_part (cond b (set xs n (Some (p.0, p.1, r))) xs) ≡ set (ranks_part xs) n (better m (rank_part o) (Some p))
  keep_by xs n r p None e true t = map-set rank_part xs n (Some (p.0, p.1, r))
  keep_by xs n r p None e false t = absurd (mathlib.Core.Bool.true≢false t)
  keep_by xs n r p (Some y) e true t = map-set rank_part xs n (Some (p.0, p.1, r)) ∙ sym (ap (λ z. set (ranks_part xs) n (cond z (Some p) (Some (y.0, y.1)))) t)
  keep_by xs n r p (Some y) e false t =
      let here : at (ranks_part xs) n ≡ Some (y.0, y.1) = at_map rank_part refl xs n ∙ ap rank_part e in
      sym (ap (λ z. set (ranks_part xs) n (cond z (Some p) (Some (y.0, y.1)))) t ∙ ap (set (ranks_part xs) n) (sym here) ∙ set-get_or (ranks_part xs) n None)

  keep_rank : (xs : List (Option (Best C))) (n r : ℕ) (o : Option (Rank C)) → ranks_part (keep_given m xs n r o) ≡ relax m (ranks_part xs) n o
  keep_rank xs n r None = sym (set-get_or (ranks_part xs) n None)
  keep_rank xs n r (Some p) = keep_by xs n r p (at xs n) refl (improves m (p.0, p.1, r) (at xs n)) refl ∙ ap (λ z. set (ranks_part xs) n (better m z (Some p))) (sym (at_map rank_part refl xs n))

  keep_bounded_by : (xs : List (Option (Best C))) (n : ℕ) (x : Best C) (b : ℕ) → Bounded b xs → x.1 ≤ b → (t : Bool) → Bounded b (cond t (set xs n (Some x)) xs)
  keep_bounded_by xs n x b h k true j y e = elim (at_set xs n x j y e) [ inl w ↦ h j y w | inr w ↦ subst (λ z. z.1 ≤ b) w k ]
  keep_bounded_by xs n x b h k false j y e = h j y e

  keep_bounded : (xs : List (Option (Best C))) (n r : ℕ) (o : Option (Rank C)) (b : ℕ) → Bounded b xs → ((p : Rank C) → o ≡ Some p → p.1 ≤ b) → Bounded b (keep_given m xs n r o)
  keep_bounded xs n r None b h k = h
  keep_bounded xs n r (Some p) b h k = keep_bounded_by xs n (p.0, p.1, r) b h (k p refl) (improves m (p.0, p.1, r) (at xs n))

  -- ---- base rules

  pass_bases : (s : Applied (Ranks C)) (ρs : List (RuleOf C)) (xs : List (Option (Best C))) (r : ℕ) → ranks_part (pass m (base_gives m s) xs r ρs) ≡ bases m s (ranks_part xs) ρs
  pass_bases s [] xs r = refl
  pass_bases s (ρ ∷ ρs) xs r = pass_bases s ρs (keep_given m xs ρ.left r (base_gives m s xs ρ)) (suc r) ∙ ap (λ z. bases m s z ρs) (keep_rank xs ρ.left r (base_offer m s ρ.cost ρ.form))

  cond_zero : (t : Bool) (o : Option (Rank C)) → ((p : Rank C) → o ≡ Some p → p.1 ≤ 0) → (p : Rank C) → cond t o None ≡ Some p → p.1 ≤ 0
  cond_zero true o h p e = h p e
  cond_zero false o h p e = absurd (none_some p e)

  zero_of : (c : C) (p : Rank C) → ◌≡◌ {A = Option (Rank C)} (Some (c, 0)) (Some p) → p.1 ≤ 0
  zero_of c p e = subst (λ z. z.1 ≤ 0) (some_is (c, 0) p e) (omega arith)

  with1_zero : (c : C) (o : Option (Rank C)) (p : Rank C) → Rattle.covers.specs.Ranks.with1 m c o ≡ Some p → p.1 ≤ 0
  with1_zero c None p e = absurd (none_some p e)
  with1_zero c (Some x) p e = zero_of (m.sum c x.0) p e

  with2_zero : (c : C) (o u : Option (Rank C)) (p : Rank C) → Rattle.covers.specs.Ranks.with2 m c o u ≡ Some p → p.1 ≤ 0
  with2_zero c None u p e = absurd (none_some p e)
  with2_zero c (Some x) None p e = absurd (none_some p e)
  with2_zero c (Some x) (Some y) p e = zero_of (m.sum (m.sum c x.0) y.0) p e

  base_zero : (s : Applied (Ranks C)) (c : C) (f : FormOf) (p : Rank C) → base_offer m s c f ≡ Some p → p.1 ≤ 0
  base_zero (Rattle.covers.specs.Trees.leaf op) c (chain x) p e = absurd (none_some p e)
  base_zero (Rattle.covers.specs.Trees.unary op k) c (chain x) p e = absurd (none_some p e)
  base_zero (Rattle.covers.specs.Trees.binary op k j) c (chain x) p e = absurd (none_some p e)
  base_zero (Rattle.covers.specs.Trees.leaf op) c (base0 o) p e = cond_zero (lib.Dec.eqb o op) (Some (c, 0)) (zero_of c) p e
  base_zero (Rattle.covers.specs.Trees.unary op k) c (base0 o) p e = absurd (none_some p e)
  base_zero (Rattle.covers.specs.Trees.binary op k j) c (base0 o) p e = absurd (none_some p e)
  base_zero (Rattle.covers.specs.Trees.leaf op) c (base1 o a) p e = absurd (none_some p e)
  base_zero (Rattle.covers.specs.Trees.unary op k) c (base1 o a) p e = cond_zero (lib.Dec.eqb o op) (Rattle.covers.specs.Ranks.with1 m c (at k a)) (with1_zero c (at k a)) p e
  base_zero (Rattle.covers.specs.Trees.binary op k j) c (base1 o a) p e = absurd (none_some p e)
  base_zero (Rattle.covers.specs.Trees.leaf op) c (base2 o a b) p e = absurd (none_some p e)
  base_zero (Rattle.covers.specs.Trees.unary op k) c (base2 o a b) p e = absurd (none_some p e)
  base_zero (Rattle.covers.specs.Trees.binary op k j) c (base2 o a b) p e = cond_zero (lib.Dec.eqb o op) (Rattle.covers.specs.Ranks.with2 m c (at k a) (at j b)) (with2_zero c (at k a) (at j b)) p e

  bases_bounded : (s : Applied (Ranks C)) (ρs : List (RuleOf C)) (xs : List (Option (Best C))) (r : ℕ) → Bounded 0 xs → Bounded 0 (pass m (base_gives m s) xs r ρs)
  bases_bounded s [] xs r h = h
  bases_bounded s (ρ ∷ ρs) xs r h = bases_bounded s ρs (keep_given m xs ρ.left r (base_gives m s xs ρ)) (suc r) (keep_bounded xs ρ.left r (base_gives m s xs ρ) 0 h (base_zero s ρ.cost ρ.form))

  -- ---- chain rules

  more_is : (d : ℕ) → d ≤ 1000000 → more d ≡ suc d
  more_is d h = omega arith

  source_by : (c : C) (o : Option (Best C)) → ((y : Best C) → o ≡ Some y → y.1 ≤ 1000000) → option_map (λ y. (m.sum y.0 c, more y.1)) o ≡ further m c (rank_part o)
  source_by c None h = refl
  source_by c (Some y) h = λ i. Some (m.sum y.0 c, more_is y.1 (h y refl) i)

  gives_is : (xs : List (Option (Best C))) (c : C) (f : FormOf) → Bounded 1000000 xs → over_source m xs c f ≡ chain_offer m (ranks_part xs) c f
  gives_is xs c (chain s) h = source_by c (at xs s) (h s) ∙ ap (further m c) (sym (at_map rank_part refl xs s))
  gives_is xs c (base0 o) h = refl
  gives_is xs c (base1 o a) h = refl
  gives_is xs c (base2 o a b) h = refl

  source_bounded : (c : C) (o : Option (Best C)) (b : ℕ) → ((y : Best C) → o ≡ Some y → y.1 ≤ b) → (p : Rank C) → option_map (λ y. (m.sum y.0 c, more y.1)) o ≡ Some p → p.1 ≤ suc b
  source_bounded c None b h p e = absurd (none_some p e)
  source_bounded c (Some y) b h p e = (let k = h y refl in let w : more y.1 ≤ suc b = omega arith in subst (λ z. z.1 ≤ suc b) (some_is (m.sum y.0 c, more y.1) p e) w)

  gives_bounded : (xs : List (Option (Best C))) (c : C) (f : FormOf) (b : ℕ) → Bounded b xs → (p : Rank C) → over_source m xs c f ≡ Some p → p.1 ≤ suc b
  gives_bounded xs c (chain s) b h p e = source_bounded c (at xs s) b (h s) p e
  gives_bounded xs c (base0 o) b h p e = absurd (none_some p e)
  gives_bounded xs c (base1 o a) b h p e = absurd (none_some p e)
  gives_bounded xs c (base2 o a d) b h p e = absurd (none_some p e)

  looser : (xs : List (Option (Best C))) (b d : ℕ) → b ≤ d → Bounded b xs → Bounded d xs
  looser xs b d h k n y e = (let w = k n y e in omega arith)

  pass_round : (ρs : List (RuleOf C)) (xs : List (Option (Best C))) (r b : ℕ) → Bounded b xs → b + length ρs ≤ 1000000 → (ranks_part (pass m (chain_gives m) xs r ρs) ≡ round m (ranks_part xs) ρs) × Bounded (b + length ρs) (pass m (chain_gives m) xs r ρs)
  pass_round [] xs r b h k = (refl, looser xs b (b + 0) (omega arith) h)
  pass_round (ρ ∷ ρs) xs r b h k =
      let o = chain_gives m xs ρ in
      let next = keep_given m xs ρ.left r o in
      let rest = pass_round ρs next (suc r) (suc b) (keep_bounded xs ρ.left r o (suc b) (looser xs b (suc b) (omega arith) h) (gives_bounded xs ρ.cost ρ.form b h)) (omega arith) in
      let same : ranks_part next ≡ relax m (ranks_part xs) ρ.left (chain_offer m (ranks_part xs) ρ.cost ρ.form) = keep_rank xs ρ.left r o ∙ ap (relax m (ranks_part xs) ρ.left) (gives_is xs ρ.cost ρ.form (looser xs b 1000000 (omega arith) h)) in
      (rest.0 ∙ ap (λ z. round m z ρs) same, looser (pass m (chain_gives m) next (suc r) ρs) (suc b + length ρs) (b + suc (length ρs)) (omega arith) rest.1)

  times_rounds : (ρs : List (RuleOf C)) → length ρs ≤ 256 → (k b : ℕ) (xs : List (Option (Best C))) → Bounded b xs → b + 256 * k ≤ 1000000 → (ranks_part (times (round_of m ρs) k xs) ≡ rounds m k (ranks_part xs) ρs) × Bounded 1000000 (times (round_of m ρs) k xs)
  times_rounds ρs few zero b xs h s = (refl, looser xs b 1000000 (omega arith) h)
  times_rounds ρs few (suc k) b xs h s =
      let one = pass_round ρs xs 1 b h (omega arith) in
      let rest = times_rounds ρs few k (b + 256) (round_of m ρs xs) (looser (round_of m ρs xs) (b + length ρs) (b + 256) (omega arith) one.1) (omega arith) in
      (rest.0 ∙ ap (λ z. rounds m k z ρs) one.0, rest.1)

  few_by : (o : Option (Best C)) → ((y : Best C) → o ≡ Some y → y.1 ≤ 1000000) → (p : Rank C) → rank_part o ≡ Some p → p.1 ≤ 1000000
  few_by None h p e = absurd (none_some p e)
  few_by (Some y) h p e = subst (λ z. z.1 ≤ 1000000) (some_is (y.0, y.1) p e) (h y refl)

  bounded_few : (xs : List (Option (Best C))) → Bounded 1000000 xs → Few (ranks_part xs)
  bounded_few xs h n p e = few_by (at xs n) (h n) p (sym (at_map rank_part refl xs n) ∙ e)

  few_bounded : (xs : List (Option (Best C))) → Few (ranks_part xs) → Bounded 1000000 xs
  few_bounded xs h n y e = h n (y.0, y.1) (at_map rank_part refl xs n ∙ ap rank_part e)

  blank_bounded : (n : ℕ) → Bounded 0 (replicate {A = Option (Best C)} n None)
  blank_bounded zero k y e = absurd (none_some y e)
  blank_bounded (suc n) zero y e = absurd (none_some y e)
  blank_bounded (suc n) (suc k) y e = blank_bounded n k y e

  blank_part : (n : ℕ) → ranks_part (replicate {A = Option (Best C)} n None) ≡ replicate n None
  blank_part zero = refl
  blank_part (suc n) = ap (λ z. None ∷ z) (blank_part n)

  pub ranks_are : (ρs : List (RuleOf C)) (n : ℕ) (s : Applied (Ranks C)) (xs : List (Option (Best C))) → xs ≡ times (round_of m ρs) (n - 1) (pass m (base_gives m s) (replicate n None) 1 ρs) → RanksAre m ρs n s xs
  ranks_are ρs n s xs e G declared rules counts =
      let few : length ρs ≤ 256 = subst (λ z. length z ≤ 256) rules declared.few_rules in
      let small : n ≤ 32 = subst (λ z. z ≤ 32) counts declared.few_nonterminals in
      let start = pass m (base_gives m s) (replicate n None) 1 ρs in
      let began : ranks_part start ≡ bases m s (replicate n None) ρs = pass_bases s ρs (replicate n None) 1 ∙ ap (λ z. bases m s z ρs) (blank_part n) in
      let turns : n - 1 ≡ pred n = omega arith in
      let ran = times_rounds ρs few (n - 1) 0 start (bases_bounded s ρs (replicate n None) 1 (blank_bounded n)) (omega arith) in
      (ap ranks_part e ∙ ran.0 ∙ (λ i. rounds m (turns i) (began i) ρs) ∙ sym (λ i. rounds m (pred (counts i)) (bases m s (replicate (counts i) None) (rules i)) (rules i)), bounded_few xs (subst (Bounded 1000000) (sym e) ran.1))

  blank_kept : (n : ℕ) → map kept_of (replicate {A = Option (Work C)} n None) ≡ replicate n None
  blank_kept zero = refl
  blank_kept (suc n) = ap (λ z. None ∷ z) (blank_kept n)

  -- cleared, then the base rules, then the rounds
  pub ranks_done : (ρs : List (RuleOf C)) (n k : ℕ) (s : Applied (Ranks C)) (cleared based ended : List (Option (Work C))) → cleared ≡ replicate k None → k ≡ n → length based ≡ n → map kept_of based ≡ pass m (base_gives m s) (map kept_of cleared) 1 ρs → map kept_of ended ≡ times (round_of m ρs) (length based - 1) (map kept_of based) → RanksAre m ρs n s (map kept_of ended)
  ranks_done ρs n k s cleared based ended p h q e f =
      let start : map kept_of based ≡ pass m (base_gives m s) (replicate n None) 1 ρs = e ∙ ap (λ z. pass m (base_gives m s) z 1 ρs) (ap (map kept_of) p ∙ blank_kept k ∙ ap (λ z. replicate z None) h) in
      ranks_are ρs n s (map kept_of ended) (f ∙ (λ i. times (round_of m ρs) (q i - 1) (start i)))

  -- ---- what any rule gives

  or_none : {A : Type 0} (o : Option A) → option_or o None ≡ o
  or_none None = refl
  or_none (Some x) = refl

  -- as a base rule, or else as a chain rule
  pub either_is_offer : (s : Applied (Ranks C)) (xs : List (Option (Best C))) (c : C) (f : FormOf) → Few (ranks_part xs) → option_or (base_offer m s c f) (over_source m xs c f) ≡ offer m s (ranks_part xs) c f
  either_is_offer (Rattle.covers.specs.Trees.leaf op) xs c (chain x) few = gives_is xs c (chain x) (few_bounded xs few)
  either_is_offer (Rattle.covers.specs.Trees.unary op k) xs c (chain x) few = gives_is xs c (chain x) (few_bounded xs few)
  either_is_offer (Rattle.covers.specs.Trees.binary op k j) xs c (chain x) few = gives_is xs c (chain x) (few_bounded xs few)
  either_is_offer s xs c (base0 o) few = or_none (base_offer m s c (base0 o))
  either_is_offer s xs c (base1 o a) few = or_none (base_offer m s c (base1 o a))
  either_is_offer s xs c (base2 o a b) few = or_none (base_offer m s c (base2 o a b))
