-- The steps of a cover: how many they are, what they add up to, and that they determine the cover.
use Rattle.std.proofs.Common.{◌≡◌, ℕ, ◌+◌, ◌*◌, ◌≤◌, List, [], ◌∷◌, ◌++◌, length, ℤ, sym, refl, ap, ◌∙◌, arith}
use Rattle.std.proofs.lemmas.List.{length-append}
use Rattle.cost.specs.Model.{Model, Laws}
use Rattle.grammar.specs.Lists.{chain, base0, base1, base2, Lists, Sealed}
use Rattle.covers.specs.Trees.{Tree, node0, node1, node2, size}
use Rattle.covers.specs.Covers.{source, rule_cost, Linked, Run, Cover, cover0, cover1, cover2, Covers, run_cost, cover_cost}
use Rattle.covers.specs.Steps.{Step, step, step_count, chain_steps, steps_after, steps, total_after, total}
use Rattle.covers.proofs.Runs.{rule_cost_bounds, run_short}
use Rattle.covers.proofs.BaseParts.{cover_weight}

-- ---- how many

pub chain_steps_length : (rs : List ℕ) (p : ℤ) (i : ℕ) → length (chain_steps rs p i) ≡ length rs
chain_steps_length [] p i = refl
chain_steps_length (r ∷ rs) p i =
    let h = chain_steps_length rs p i in
    omega (arith, length-append (chain_steps rs p i) (step r p (i + length rs) 0 ∷ []))

module _ {C : Type 0} (G : Lists C) where
  pub steps_length : (t : Tree) (k : Cover) (n i : ℕ) → Covers G k t n → length (steps_after i t k) ≡ step_count k
  steps_length (node0 op p) (cover0 rs r) n i h = (let e = chain_steps_length rs p (i + 1) in omega arith)
  steps_length (node0 op p) (cover1 rs r k) n i h = absurd h
  steps_length (node0 op p) (cover2 rs r k j) n i h = absurd h
  steps_length (node1 op p t) (cover0 rs r) n i h = absurd h
  steps_length (node1 op p t) (cover1 rs r k) n i h =
      let own = step r p (i + step_count k) 0 ∷ chain_steps rs p (i + step_count k + 1) in
      let a = steps_length t k h.1 i h.4 in
      let b = chain_steps_length rs p (i + step_count k + 1) in
      omega (arith, length-append (steps_after i t k) own)
  steps_length (node1 op p t) (cover2 rs r k j) n i h = absurd h
  steps_length (node2 op p t u) (cover0 rs r) n i h = absurd h
  steps_length (node2 op p t u) (cover1 rs r k) n i h = absurd h
  steps_length (node2 op p t u) (cover2 rs r k j) n i h =
      let q = i + step_count k in
      let own = step r p q (q + step_count j) ∷ chain_steps rs p (q + step_count j + 1) in
      let a = steps_length t k h.1 i h.5 in
      let c = steps_length u j h.2 q h.6 in
      let b = chain_steps_length rs p (q + step_count j + 1) in
      omega (arith, length-append (steps_after i t k) (steps_after q u j ++ own), length-append (steps_after q u j) own)

module _ {C : Type 0} {m : Model C} {G : Lists C} (sealed : Sealed m G) where
  run_few : (rs : List ℕ) (n e : ℕ) → Run G rs n e → length rs ≤ 31
  run_few rs n e run = (let few = sealed.declared.few_nonterminals in omega (arith, run_short sealed rs n e run))

  pub steps_few : (t : Tree) (k : Cover) (n : ℕ) → Covers G k t n → step_count k ≤ 32 * size t
  steps_few (node0 op p) (cover0 rs r) n h = (let q = run_few rs n h.0 h.1 in omega arith)
  steps_few (node0 op p) (cover1 rs r k) n h = absurd h
  steps_few (node0 op p) (cover2 rs r k j) n h = absurd h
  steps_few (node1 op p t) (cover0 rs r) n h = absurd h
  steps_few (node1 op p t) (cover1 rs r k) n h =
      let q = run_few rs n h.0 h.2 in
      let a = steps_few t k h.1 h.4 in
      omega arith
  steps_few (node1 op p t) (cover2 rs r k j) n h = absurd h
  steps_few (node2 op p t u) (cover0 rs r) n h = absurd h
  steps_few (node2 op p t u) (cover1 rs r k) n h = absurd h
  steps_few (node2 op p t u) (cover2 rs r k j) n h =
      let q = run_few rs n h.0 h.3 in
      let a = steps_few t k h.1 h.5 in
      let b = steps_few u j h.2 h.6 in
      omega arith

-- ---- what they add up to

-- each step's rule weighs at most 1000
abbrev pub Cheap : {C : Type 0} → Model C → Lists C → List Step → Type 0
Cheap m G [] = Unit {0}
Cheap m G (x ∷ xs) = (m.weight (rule_cost m G x.rule) ≤ 1000) × Cheap m G xs

cheap_append : {C : Type 0} (m : Model C) (G : Lists C) (xs ys : List Step) → Cheap m G xs → Cheap m G ys → Cheap m G (xs ++ ys)
cheap_append m G [] ys h k = k
cheap_append m G (x ∷ xs) ys h k = (h.0, cheap_append m G xs ys h.1 k)

-- the costs added up from the last on
abbrev pub sum_all : {C : Type 0} → Model C → Lists C → List Step → C
sum_all m G [] = m.zero
sum_all m G (x ∷ xs) = m.sum (rule_cost m G x.rule) (sum_all m G xs)

module _ {C : Type 0} {m : Model C} (l : Laws m) {G : Lists C} (sealed : Sealed m G) where
  zero_sum : (c : C) → m.weight c ≤ 100000000 → m.sum m.zero c ≡ c
  zero_sum c w = l.sum_swap m.zero c (omega (arith, l.zero_weight)) ∙ l.sum_zero c (omega arith)

  pub sum_all_weight : (xs : List Step) → Cheap m G xs → length xs ≤ 65536 → m.weight (sum_all m G xs) ≤ 1000 * length xs
  sum_all_weight [] h s = omega (arith, l.zero_weight)
  sum_all_weight (x ∷ xs) h s =
      let w = sum_all_weight xs h.1 (omega arith) in
      let v : m.weight (rule_cost m G x.rule) ≤ 1000 = h.0 in
      omega (arith, l.sum_weight (rule_cost m G x.rule) (sum_all m G xs) (omega arith))

  sum_all_append : (xs ys : List Step) → Cheap m G xs → Cheap m G ys → length xs + length ys ≤ 65536 → sum_all m G (xs ++ ys) ≡ m.sum (sum_all m G xs) (sum_all m G ys)
  sum_all_append [] ys h k s = (let w = sum_all_weight ys k (omega arith) in sym (zero_sum (sum_all m G ys) (omega arith)))
  sum_all_append (x ∷ xs) ys h k s =
      let w = sum_all_weight xs h.1 (omega arith) in
      let v = sum_all_weight ys k (omega arith) in
      let u : m.weight (rule_cost m G x.rule) ≤ 1000 = h.0 in
      ap (m.sum (rule_cost m G x.rule)) (sum_all_append xs ys h.1 k (omega arith)) ∙ sym (l.sum_group (rule_cost m G x.rule) (sum_all m G xs) (sum_all m G ys) (omega arith))

  total_after_is : (c : C) (xs : List Step) → Cheap m G xs → m.weight c + 1000 * length xs ≤ 65536000 → total_after m G c xs ≡ m.sum c (sum_all m G xs)
  total_after_is c [] h s = sym (l.sum_zero c (omega arith))
  total_after_is c (x ∷ xs) h s =
      let u : m.weight (rule_cost m G x.rule) ≤ 1000 = h.0 in
      let w = l.sum_weight c (rule_cost m G x.rule) (omega arith) in
      let v = sum_all_weight xs h.1 (omega arith) in
      total_after_is (m.sum c (rule_cost m G x.rule)) xs h.1 (omega arith) ∙ l.sum_group c (rule_cost m G x.rule) (sum_all m G xs) (omega arith)

  pub total_is : (xs : List Step) → Cheap m G xs → length xs ≤ 65536 → total m G xs ≡ sum_all m G xs
  total_is xs h s =
      let z = l.zero_weight in
      let w = sum_all_weight xs h s in
      total_after_is m.zero xs h (omega arith) ∙ zero_sum (sum_all m G xs) (omega arith)

  linked_cheap : (rs : List ℕ) (n e : ℕ) (p : ℤ) (i : ℕ) → Linked G rs n e → Cheap m G (chain_steps rs p i)
  linked_cheap [] n e p i h = tt
  linked_cheap (r ∷ rs) n e p i h = cheap_append m G (chain_steps rs p i) (step r p (i + length rs) 0 ∷ []) (linked_cheap rs (source G r) e p i h.1) ((rule_cost_bounds sealed r n (chain (source G r)) h.0).light, tt)

  -- a run over c
  run_sum : (rs : List ℕ) (n e : ℕ) (p : ℤ) (i : ℕ) (c : C) → Linked G rs n e → length rs ≤ 32 → m.weight c ≤ 66000000 → run_cost m G rs c ≡ m.sum c (sum_all m G (chain_steps rs p i))
  run_sum [] n e p i c h s w = sym (l.sum_zero c (omega arith))
  run_sum (r ∷ rs) n e p i c h s w =
      let x = step r p (i + length rs) 0 in
      let ys = chain_steps rs p i in
      let cheap = linked_cheap rs (source G r) e p i h.1 in
      let u = (rule_cost_bounds sealed r n (chain (source G r)) h.0).light in
      let len = chain_steps_length rs p i in
      let v = sum_all_weight ys cheap (omega arith) in
      let one : sum_all m G (x ∷ []) ≡ rule_cost m G r = l.sum_zero (rule_cost m G r) (omega arith) in
      let all : sum_all m G (ys ++ x ∷ []) ≡ m.sum (sum_all m G ys) (rule_cost m G r) = sum_all_append ys (x ∷ []) cheap (u, tt) (omega arith) ∙ ap (m.sum (sum_all m G ys)) one in
      ap (λ z. m.sum z (rule_cost m G r)) (run_sum rs (source G r) e p i c h.1 (omega arith) w) ∙ l.sum_group c (sum_all m G ys) (rule_cost m G r) (omega arith) ∙ ap (m.sum c) (sym all)

  pub record Sums (t : Tree) (k : Cover) (i : ℕ) : Type 0 where
    pub cheap : Cheap m G (steps_after i t k)
    pub is : cover_cost m G k ≡ sum_all m G (steps_after i t k)

  -- (r + k) + s = k + (r + s)
  turn : (r k s : C) → m.weight r + m.weight k + m.weight s ≤ 1000000000 → m.sum (m.sum r k) s ≡ m.sum k (m.sum r s)
  turn r k s w = ap (λ z. m.sum z s) (l.sum_swap r k (omega arith)) ∙ l.sum_group k r s (omega arith)

  pub sums : (t : Tree) (k : Cover) (n i : ℕ) → size t ≤ 2048 → Covers G k t n → Sums t k i
  sums (node0 op p) (cover0 rs r) n i s h =
      let w = (rule_cost_bounds sealed r h.0 (base0 op) h.2).light in
      let short = run_few sealed rs n h.0 h.1 in
      record {
        cheap = (w, linked_cheap rs n h.0 p (i + 1) h.1.linked);
        is = run_sum rs n h.0 p (i + 1) (rule_cost m G r) h.1.linked (omega arith) (omega arith);
      }
  sums (node0 op p) (cover1 rs r k) n i s h = absurd h
  sums (node0 op p) (cover2 rs r k j) n i s h = absurd h
  sums (node1 op p t) (cover0 rs r) n i s h = absurd h
  sums (node1 op p t) (cover1 rs r k) n i s h =
      let w = (rule_cost_bounds sealed r h.0 (base1 op h.1) h.3).light in
      let short = run_few sealed rs n h.0 h.2 in
      let kid = sums t k h.1 i (omega arith) h.4 in
      let wk = cover_weight l sealed t k h.1 (omega arith) h.4 in
      let q = i + step_count k in
      let xs = steps_after i t k in
      let ys = chain_steps rs p (q + 1) in
      let own = step r p q 0 ∷ ys in
      let linked = linked_cheap rs n h.0 p (q + 1) h.2.linked in
      let lx = steps_length G t k h.1 i h.4 in
      let few = steps_few sealed t k h.1 h.4 in
      let ly = chain_steps_length rs p (q + 1) in
      let wy = sum_all_weight ys linked (omega arith) in
      let wr = l.sum_weight (rule_cost m G r) (cover_cost m G k) (omega arith) in
      record {
        cheap = cheap_append m G xs own kid.cheap (w, linked);
        is = run_sum rs n h.0 p (q + 1) (m.sum (rule_cost m G r) (cover_cost m G k)) h.2.linked (omega arith) (omega arith)
            ∙ turn (rule_cost m G r) (cover_cost m G k) (sum_all m G ys) (omega arith)
            ∙ ap (λ z. m.sum z (sum_all m G own)) kid.is
            ∙ sym (sum_all_append xs own kid.cheap (w, linked) (omega arith));
      }
  sums (node1 op p t) (cover2 rs r k j) n i s h = absurd h
  sums (node2 op p t u) (cover0 rs r) n i s h = absurd h
  sums (node2 op p t u) (cover1 rs r k) n i s h = absurd h
  sums (node2 op p t u) (cover2 rs r k j) n i s h =
      let w = (rule_cost_bounds sealed r h.0 (base2 op h.1 h.2) h.4).light in
      let short = run_few sealed rs n h.0 h.3 in
      let q = i + step_count k in
      let kid = sums t k h.1 i (omega arith) h.5 in
      let cub = sums u j h.2 q (omega arith) h.6 in
      let wk = cover_weight l sealed t k h.1 (omega arith) h.5 in
      let wj = cover_weight l sealed u j h.2 (omega arith) h.6 in
      let xs = steps_after i t k in
      let zs = steps_after q u j in
      let ys = chain_steps rs p (q + step_count j + 1) in
      let own = step r p q (q + step_count j) ∷ ys in
      let linked = linked_cheap rs n h.0 p (q + step_count j + 1) h.3.linked in
      let lx = steps_length G t k h.1 i h.5 in
      let lz = steps_length G u j h.2 q h.6 in
      let few = steps_few sealed t k h.1 h.5 in
      let less = steps_few sealed u j h.2 h.6 in
      let ly = chain_steps_length rs p (q + step_count j + 1) in
      let lo = length-append zs own in
      let wy = sum_all_weight ys linked (omega arith) in
      let wr = l.sum_weight (rule_cost m G r) (cover_cost m G k) (omega arith) in
      let wrj = l.sum_weight (m.sum (rule_cost m G r) (cover_cost m G k)) (cover_cost m G j) (omega arith) in
      let wrs = l.sum_weight (rule_cost m G r) (cover_cost m G j) (omega arith) in
      let rest : Cheap m G (zs ++ own) = cheap_append m G zs own cub.cheap (w, linked) in
      let tail : m.sum (m.sum (rule_cost m G r) (cover_cost m G j)) (sum_all m G ys) ≡ sum_all m G (zs ++ own) = turn (rule_cost m G r) (cover_cost m G j) (sum_all m G ys) (omega arith) ∙ ap (λ z. m.sum z (sum_all m G own)) cub.is ∙ sym (sum_all_append zs own cub.cheap (w, linked) (omega arith)) in
      record {
        cheap = cheap_append m G xs (zs ++ own) kid.cheap rest;
        is = run_sum rs n h.0 p (q + step_count j + 1) (m.sum (m.sum (rule_cost m G r) (cover_cost m G k)) (cover_cost m G j)) h.3.linked (omega arith) (omega arith)
            ∙ ap (λ z. m.sum z (sum_all m G ys)) (turn (rule_cost m G r) (cover_cost m G k) (cover_cost m G j) (omega arith))
            ∙ l.sum_group (cover_cost m G k) (m.sum (rule_cost m G r) (cover_cost m G j)) (sum_all m G ys) (omega arith)
            ∙ (λ z. m.sum (kid.is z) (tail z))
            ∙ sym (sum_all_append xs (zs ++ own) kid.cheap rest (omega arith));
      }

  pub steps_total : (t : Tree) (k : Cover) (n : ℕ) → size t ≤ 2048 → Covers G k t n → total m G (steps t k) ≡ cover_cost m G k
  steps_total t k n s h =
      let a = sums t k n 0 s h in
      let len = steps_length G t k n 0 h in
      let few = steps_few sealed t k n h in
      total_is (steps t k) a.cheap (omega arith) ∙ sym a.is
