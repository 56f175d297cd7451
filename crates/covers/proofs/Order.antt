-- Orders by an answer of three, the order of ranks among them.
use Rattle.std.proofs.Common.{◌≡◌, ℕ, ◌<◌, cond, eqb, ◌⊎◌, Ordering, Less, Equal, Greater, sym, refl, ap, ◌∙◌, subst, inl, inr, true≢false}
use Rattle.std.proofs.lemmas.Bool.{lt-ltb}
use Rattle.std.specs.Cmp.{ranks, nat_cmp_total}
use Rattle.std.specs.Ordering.{ordering_reverse, ordering_then, is_lt, is_gt, MatchOrdering, nat_cmp}
use Rattle.cost.specs.Model.{Model, Laws}
use Rattle.covers.specs.Ranks.{Rank, by_rank}

pub record Order {A : Type 0} (cmp : A → A → Ordering) : Type 0 where
  pub flip : (a b : A) → cmp a b ≡ ordering_reverse (cmp b a)
  pub trans : (a b c : A) → cmp a b ≡ Less → cmp b c ≡ Less → cmp a c ≡ Less
  pub same : (a b : A) → cmp a b ≡ Equal → a ≡ b

abbrev pub Lt : {A : Type 0} → (A → A → Ordering) → A → A → Type 0
Lt cmp a b = cmp a b ≡ Less

abbrev pub Le : {A : Type 0} → (A → A → Ordering) → A → A → Type 0
Le cmp a b = cmp b a ≡ Less → ⊥

own_turn : (r : Ordering) → r ≡ ordering_reverse r → r ≡ Equal
own_turn Less e = absurd (true≢false (ap is_lt e))
own_turn Equal e = refl
own_turn Greater e = absurd (true≢false (ap is_gt e))

module _ {A : Type 0} {cmp : A → A → Ordering} (o : Order cmp) where
  pub itself : (a : A) → cmp a a ≡ Equal
  itself a = own_turn (cmp a a) (o.flip a a)

  pub irrefl : (a : A) → Lt cmp a a → ⊥
  irrefl a h = true≢false (ap is_lt (sym h ∙ itself a))

  three : (a b : A) (r : Ordering) → cmp a b ≡ r → Lt cmp a b ⊎ ((a ≡ b) ⊎ Lt cmp b a)
  three a b Less e = inl e
  three a b Equal e = inr (inl (o.same a b e))
  three a b Greater e = inr (inr (o.flip b a ∙ ap ordering_reverse e))

  pub cases : (a b : A) → Lt cmp a b ⊎ ((a ≡ b) ⊎ Lt cmp b a)
  cases a b = three a b (cmp a b) refl

  pub le_refl : (a : A) → Le cmp a a
  le_refl a h = irrefl a h

  pub lt_le : (a b : A) → Lt cmp a b → Le cmp a b
  lt_le a b h k = irrefl a (o.trans a b a h k)

  pub lt_le_trans : (a b c : A) → Lt cmp a b → Le cmp b c → Lt cmp a c
  lt_le_trans a b c h k = elim (cases b c) [ inl p ↦ o.trans a b c h p | inr (inl p) ↦ subst (λ z. cmp a z ≡ Less) p h | inr (inr p) ↦ absurd (k p) ]

  pub le_lt_trans : (a b c : A) → Le cmp a b → Lt cmp b c → Lt cmp a c
  le_lt_trans a b c h k = elim (cases a b) [ inl p ↦ o.trans a b c p k | inr (inl p) ↦ subst (λ z. cmp z c ≡ Less) (sym p) k | inr (inr p) ↦ absurd (h p) ]

  pub le_trans : (a b c : A) → Le cmp a b → Le cmp b c → Le cmp a c
  le_trans a b c h k p = k (lt_le_trans c a b p h)

  pub le_same : (a b : A) → Le cmp a b → Le cmp b a → a ≡ b
  le_same a b h k = elim (cases a b) [ inl p ↦ absurd (k p) | inr (inl p) ↦ p | inr (inr p) ↦ absurd (h p) ]

  -- what keeps `Lt` keeps `Le`
  pub le_kept : {B : Type 0} {cmp' : B → B → Ordering} (o' : Order cmp') (f : A → B) (a b : A) → (Lt cmp a b → Lt cmp' (f a) (f b)) → Le cmp a b → Le cmp' (f a) (f b)
  le_kept {B} {cmp'} o' f a b g h k = elim (cases a b) [ inl p ↦ absurd (irrefl' (o'.trans (f a) (f b) (f a) (g p) k)) | inr (inl p) ↦ absurd (irrefl' (subst (λ z. cmp' (f z) (f a) ≡ Less) (sym p) k)) | inr (inr p) ↦ absurd (h p) ]
    where
      irrefl' : Lt cmp' (f a) (f a) → ⊥
      irrefl' q = true≢false (ap is_lt (sym q ∙ own_turn (cmp' (f a) (f a)) (o'.flip (f a) (f a))))

pub less_rank : (a b : ℕ) → a < b → nat_cmp a b ≡ Less
less_rank a b h = ap (λ t. cond t Less (cond (eqb a b) Equal Greater)) (lt-ltb a b h)

pub rank_less : (a b : ℕ) → nat_cmp a b ≡ Less → a < b
rank_less a b e = subst (λ k. MatchOrdering k (a < b) (a ≡ b) (b < a)) e (ranks a b)

rank_same : (a b : ℕ) → nat_cmp a b ≡ Equal → a ≡ b
rank_same a b e = subst (λ k. MatchOrdering k (a < b) (a ≡ b) (b < a)) e (ranks a b)

then_flip : (a b : Ordering) → ordering_then (ordering_reverse a) (ordering_reverse b) ≡ ordering_reverse (ordering_then a b)
then_flip Less b = refl
then_flip Equal b = refl
then_flip Greater b = refl

pub cost_order : {C : Type 0} {m : Model C} → Laws m → Order m.cmp
cost_order l = record { flip = l.cmp_flip; trans = l.cmp_chain; same = l.cmp_same }

module _ {C : Type 0} {m : Model C} (l : Laws m) where
  chain : (a b c : Rank C) (r s : Ordering) → m.cmp a.0 b.0 ≡ r → m.cmp b.0 c.0 ≡ s → ordering_then r (nat_cmp a.1 b.1) ≡ Less → ordering_then s (nat_cmp b.1 c.1) ≡ Less → by_rank m a c ≡ Less
  chain a b c Less Less p q g h = ap (λ x. ordering_then x (nat_cmp a.1 c.1)) (l.cmp_chain a.0 b.0 c.0 p q)
  chain a b c Less Equal p q g h = ap (λ x. ordering_then x (nat_cmp a.1 c.1)) (subst (λ z. m.cmp a.0 z ≡ Less) (l.cmp_same b.0 c.0 q) p)
  chain a b c Less Greater p q g h = absurd (true≢false (ap is_gt h))
  chain a b c Equal Less p q g h = ap (λ x. ordering_then x (nat_cmp a.1 c.1)) (subst (λ z. m.cmp z c.0 ≡ Less) (sym (l.cmp_same a.0 b.0 p)) q)
  chain a b c Equal Equal p q g h = ap (λ x. ordering_then x (nat_cmp a.1 c.1)) (subst (λ z. m.cmp z c.0 ≡ Equal) (sym (l.cmp_same a.0 b.0 p)) q) ∙ nat_cmp_total.trans a.1 b.1 c.1 g h
  chain a b c Equal Greater p q g h = absurd (true≢false (ap is_gt h))
  chain a b c Greater s p q g h = absurd (true≢false (ap is_gt g))

  same : (a b : Rank C) (r : Ordering) → m.cmp a.0 b.0 ≡ r → ordering_then r (nat_cmp a.1 b.1) ≡ Equal → a ≡ b
  same a b Less p e = absurd (true≢false (ap is_lt e))
  same a b Equal p e = λ i. (l.cmp_same a.0 b.0 p i, rank_same a.1 b.1 e i)
  same a b Greater p e = absurd (true≢false (ap is_gt e))

  pub rank_order : Order (by_rank m)
  rank_order = record {
    flip = λ a b. (λ i. ordering_then (l.cmp_flip a.0 b.0 i) (nat_cmp_total.antisymm a.1 b.1 i)) ∙ then_flip (m.cmp b.0 a.0) (nat_cmp b.1 a.1);
    trans = λ a b c g h. chain a b c (m.cmp a.0 b.0) (m.cmp b.0 c.0) refl refl g h;
    same = λ a b e. same a b (m.cmp a.0 b.0) refl e;
  }
