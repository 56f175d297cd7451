-- A row, and what one offer makes of it.
use Rattle.std.proofs.Common.{◌≡◌, ℕ, ◌<◌, Bool, true, false, cond, ◌⊎◌, length, Some, None, Option, Ordering, Less, Equal, Greater, sym, refl, ap, ◌∙◌, subst, inl, inr, true≢false, arith}
use Rattle.std.proofs.lemmas.List.{get_or-set_same, get_or-set_other}
use Rattle.std.proofs.lemmas.Bool.{cases_eq}
use Rattle.std.specs.Ordering.{is_lt}
use Rattle.cost.specs.Model.{Model, Laws}
use Rattle.covers.specs.Ranks.{Rank, Ranks, by_rank, at, better, relax}
use Rattle.covers.proofs.Order.{Lt, Le, rank_order, lt_le, le_trans, lt_le_trans}

-- something stands there that is at most q
abbrev pub Under : {C : Type 0} → Model C → Option (Rank C) → Rank C → Type 0
Under m None q = ⊥
Under m (Some p) q = Le (by_rank m) p q

pub some_is : {A : Type 0} (a b : A) → Some a ≡ Some b → a ≡ b
some_is a b e = cc

pub none_some : {A : Type 0} (a : A) → ◌≡◌ {A = Option A} None (Some a) → ⊥
none_some a e = let z : ◌≡◌ {A = ℕ} 0 1 = cc in omega arith

is_less : (r : Ordering) → is_lt r ≡ true → r ≡ Less
is_less Less e = refl
is_less Equal e = absurd (true≢false (sym e))
is_less Greater e = absurd (true≢false (sym e))

not_less : (r : Ordering) → is_lt r ≡ false → r ≡ Less → ⊥
not_less r e k = true≢false (ap is_lt (sym k) ∙ e)

module _ {C : Type 0} {m : Model C} (l : Laws m) where
  pub under_trans : (o : Option (Rank C)) (p q : Rank C) → Under m o p → Le (by_rank m) p q → Under m o q
  under_trans None p q h k = h
  under_trans (Some x) p q h k = le_trans (rank_order l) x p q h k

  old_by : (p r q : Rank C) (b : Bool) → is_lt (by_rank m r p) ≡ b → Le (by_rank m) p q → Under m (cond b (Some r) (Some p)) q
  old_by p r q true e h = le_trans (rank_order l) r p q (lt_le (rank_order l) r p (is_less (by_rank m r p) e)) h
  old_by p r q false e h = h

  pub better_old : (old new : Option (Rank C)) (q : Rank C) → Under m old q → Under m (better m old new) q
  better_old old None q h = h
  better_old None (Some r) q h = absurd h
  better_old (Some p) (Some r) q h = old_by p r q (is_lt (by_rank m r p)) refl h

  new_by : (p r q : Rank C) (b : Bool) → is_lt (by_rank m r p) ≡ b → Le (by_rank m) r q → Under m (cond b (Some r) (Some p)) q
  new_by p r q true e h = h
  new_by p r q false e h = le_trans (rank_order l) p r q (not_less (by_rank m r p) e) h

  pub better_new : (old new : Option (Rank C)) (q : Rank C) → Under m new q → Under m (better m old new) q
  better_new old None q h = absurd h
  better_new None (Some r) q h = h
  better_new (Some p) (Some r) q h = new_by p r q (is_lt (by_rank m r p)) refl h

  -- the old one, or the new one, below all that the old one was at most
  abbrev Came : Option (Rank C) → Option (Rank C) → Rank C → Type 0
  Came old new x = (old ≡ Some x) ⊎ ((new ≡ Some x) × ((q : Rank C) → Under m old q → Lt (by_rank m) x q))

  is_by : (p r x : Rank C) (b : Bool) → is_lt (by_rank m r p) ≡ b → cond b (Some r) (Some p) ≡ Some x → Came (Some p) (Some r) x
  is_by p r x true e h = inr (h, λ q k. subst (λ z. Lt (by_rank m) z q) (some_is r x h) (lt_le_trans (rank_order l) r p q (is_less (by_rank m r p) e) k))
  is_by p r x false e h = inl h

  pub better_is : (old new : Option (Rank C)) (x : Rank C) → better m old new ≡ Some x → Came old new x
  better_is old None x h = inl h
  better_is None (Some r) x h = inr (h, λ q k. absurd k)
  better_is (Some p) (Some r) x h = is_by p r x (is_lt (by_rank m r p)) refl h

  module _ (row : Ranks C) (n : ℕ) (o : Option (Rank C)) (inside : n < length row) where
    at_same : at (relax m row n o) n ≡ better m (at row n) o
    at_same = get_or-set_same row n (better m (at row n) o) None inside

    at_other : (k : ℕ) → (k ≡ n → ⊥) → at (relax m row n o) k ≡ at row k
    at_other k h = get_or-set_other row n k (better m (at row n) o) None h

    pub relax_old : (k : ℕ) (q : Rank C) → Under m (at row k) q → Under m (at (relax m row n o) k) q
    relax_old k q h = elim (cases_eq k n) [
      | inl e ↦ subst (λ j. Under m (at (relax m row n o) j) q) (sym e) (subst (λ z. Under m z q) (sym at_same) (better_old (at row n) o q (subst (λ j. Under m (at row j) q) e h)))
      | inr e ↦ subst (λ z. Under m z q) (sym (at_other k e)) h
    ]

    pub relax_new : (q : Rank C) → Under m o q → Under m (at (relax m row n o) n) q
    relax_new q h = subst (λ z. Under m z q) (sym at_same) (better_new (at row n) o q h)

    pub relax_is : (k : ℕ) (x : Rank C) → at (relax m row n o) k ≡ Some x → (at row k ≡ Some x) ⊎ ((k ≡ n) × (o ≡ Some x) × ((q : Rank C) → Under m (at row n) q → Lt (by_rank m) x q))
    relax_is k x h = elim (cases_eq k n) [
      | inl e ↦ elim (better_is (at row n) o x (sym at_same ∙ subst (λ j. at (relax m row n o) j ≡ Some x) e h)) [ inl p ↦ inl (subst (λ j. at row j ≡ Some x) (sym e) p) | inr p ↦ inr (e, p.0, p.1) ]
      | inr e ↦ inl (sym (at_other k e) ∙ h)
    ]
