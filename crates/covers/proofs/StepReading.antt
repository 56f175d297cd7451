-- A cover can be read back from its steps, so they determine it.
use Rattle.std.proofs.Common.{◌≡◌, ℕ, zero, suc, ◌+◌, List, [], ◌∷◌, ◌++◌, length, ℤ, Some, None, Option, sym, refl, ap, ◌∙◌, subst, arith}
use Rattle.std.specs.List.{slice_get}
use Rattle.std.specs.Option.{option_map}
use Rattle.grammar.specs.Lists.{FormOf, chain, base0, base1, base2, RuleOf, Lists, rule, numbered}
use Rattle.covers.specs.Trees.{Tree, node0, node1, node2}
use Rattle.covers.specs.Covers.{source, RuleIs, Linked, Cover, cover0, cover1, cover2, Covers}
use Rattle.covers.specs.Steps.{Step, step, step_count, chain_steps, steps_after, steps}
use Rattle.covers.proofs.Relaxing.{some_is}
use Rattle.covers.proofs.Nths.{nth_front, nth_back}
use Rattle.covers.proofs.StepLists.{chain_steps_length, steps_length}

-- ---- a list that holds another from place i on

abbrev Holds : List Step → ℕ → List Step → Type 0
Holds xs i ys = (j : ℕ) (x : Step) → slice_get ys j ≡ Some x → slice_get xs (i + j) ≡ Some x

holds_front : (xs : List Step) (i : ℕ) (ys zs : List Step) → Holds xs i (ys ++ zs) → Holds xs i ys
holds_front xs i ys zs h j x e = h j x (nth_front ys zs j x e)

holds_back : (xs : List Step) (i q : ℕ) (ys zs : List Step) → q ≡ i + length ys → Holds xs i (ys ++ zs) → Holds xs q zs
holds_back xs i q ys zs s h j x e =
    let place : i + (length ys + j) ≡ q + j = omega arith in
    subst (λ z. slice_get xs z ≡ Some x) place (h (length ys + j) x (nth_back ys zs j (length ys + j) refl ∙ e))

holds_tail : (xs : List Step) (i : ℕ) (y : Step) (ys : List Step) → Holds xs i (y ∷ ys) → Holds xs (i + 1) ys
holds_tail xs i y ys h j x e = (let place : i + suc j ≡ i + 1 + j = omega arith in subst (λ z. slice_get xs z ≡ Some x) place (h (suc j) x e))

-- ---- reading

-- one chain rule more before a cover
abbrev outer : ℕ → Cover → Cover
outer r (cover0 rs q) = cover0 (r ∷ rs) q
outer r (cover1 rs q k) = cover1 (r ∷ rs) q k
outer r (cover2 rs q k j) = cover2 (r ∷ rs) q k j

abbrev with_run : List ℕ → Cover → Cover
with_run [] k = k
with_run (r ∷ rs) k = outer r (with_run rs k)

abbrev both : ℕ → Option Cover → Option Cover → Option Cover
both r None o = None
both r (Some k) None = None
both r (Some k) (Some j) = Some (cover2 [] r k j)

abbrev read_form : (ℕ → Option Cover) → Step → FormOf → Option Cover
read_form f x (chain s) = option_map (outer x.rule) (f x.left)
read_form f x (base0 op) = Some (cover0 [] x.rule)
read_form f x (base1 op a) = option_map (cover1 [] x.rule) (f x.left)
read_form f x (base2 op a b) = both x.rule (f x.left) (f x.right)

abbrev read_rule : {C : Type 0} → (ℕ → Option Cover) → Step → Option (RuleOf C) → Option Cover
read_rule f x None = None
read_rule f x (Some ρ) = read_form f x ρ.form

abbrev read_step : {C : Type 0} → Lists C → (ℕ → Option Cover) → Option Step → Option Cover
read_step G f None = None
read_step G f (Some x) = read_rule f x (rule G x.rule)

-- the cover whose last step has the number i
abbrev read : {C : Type 0} → Lists C → List Step → ℕ → ℕ → Option Cover
read G xs zero i = None
read G xs (suc d) i = read_step G (read G xs d) (numbered xs i)

module _ {C : Type 0} (G : Lists C) (xs : List Step) where
  -- what a step at place i is read as
  read_at : (d i q : ℕ) (x : Step) (n : ℕ) (s : FormOf) → q ≡ suc i → slice_get xs i ≡ Some x → RuleIs G x.rule n s → read G xs (suc d) q ≡ read_form (read G xs d) x s
  read_at d i q x n s e h r =
      ap (λ z. read_step G (read G xs d) (numbered xs z)) e ∙ ap (read_step G (read G xs d)) h ∙ ap (read_rule (read G xs d) x) r.stands ∙ ap (read_form (read G xs d) x) r.formed

  first_at : (i : ℕ) (y : Step) (ys : List Step) → Holds xs i (y ∷ ys) → slice_get xs i ≡ Some y
  first_at i y ys h = (let place : i + 0 ≡ i = omega arith in subst (λ z. slice_get xs z ≡ Some y) place (h 0 y refl))

  read_run : (rs : List ℕ) (n e : ℕ) (p : ℤ) (i d : ℕ) (k : Cover) → Linked G rs n e → Holds xs i (chain_steps rs p i) → read G xs d i ≡ Some k → read G xs (length rs + d) (i + length rs) ≡ Some (with_run rs k)
  read_run [] n e p i d k h w o =
      let a : 0 + d ≡ d = omega arith in
      let b : i + 0 ≡ i = omega arith in
      (λ z. read G xs (a z) (b z)) ∙ o
  read_run (r ∷ rs) n e p i d k h w o =
      let ys = chain_steps rs p i in
      let x = step r p (i + length rs) 0 in
      let len = chain_steps_length rs p i in
      let inner : read G xs (length rs + d) (i + length rs) ≡ Some (with_run rs k) = read_run rs (source G r) e p i d k h.1 (holds_front xs i ys (x ∷ []) w) o in
      let here : slice_get xs (i + length rs) ≡ Some x = first_at (i + length rs) x [] (holds_back xs i (i + length rs) ys (x ∷ []) (omega arith) w) in
      let a : suc (length rs) + d ≡ suc (length rs + d) = omega arith in
      ap (λ z. read G xs z (i + suc (length rs))) a ∙ read_at (length rs + d) (i + length rs) (i + suc (length rs)) x n (chain (source G r)) (omega arith) here h.0 ∙ ap (option_map (outer r)) inner

  with_run0 : (rs : List ℕ) (r : ℕ) → with_run rs (cover0 [] r) ≡ cover0 rs r
  with_run0 [] r = refl
  with_run0 (q ∷ rs) r = ap (outer q) (with_run0 rs r)

  with_run1 : (rs : List ℕ) (r : ℕ) (k : Cover) → with_run rs (cover1 [] r k) ≡ cover1 rs r k
  with_run1 [] r k = refl
  with_run1 (q ∷ rs) r k = ap (outer q) (with_run1 rs r k)

  with_run2 : (rs : List ℕ) (r : ℕ) (k j : Cover) → with_run rs (cover2 [] r k j) ≡ cover2 rs r k j
  with_run2 [] r k j = refl
  with_run2 (q ∷ rs) r k j = ap (outer q) (with_run2 rs r k j)

  read_cover : (t : Tree) (k : Cover) (n i d : ℕ) → Covers G k t n → Holds xs i (steps_after i t k) → read G xs (step_count k + d) (i + step_count k) ≡ Some k
  read_cover (node0 op p) (cover0 rs r) n i d h w =
      let x = step r p 0 0 in
      let ys = chain_steps rs p (i + 1) in
      let base : read G xs (suc d) (i + 1) ≡ Some (cover0 [] r) = read_at d i (i + 1) x h.0 (base0 op) (omega arith) (first_at i x ys w) h.2 in
      let all = read_run rs n h.0 p (i + 1) (suc d) (cover0 [] r) h.1.linked (holds_tail xs i x ys w) base in
      let a : 1 + length rs + d ≡ length rs + suc d = omega arith in
      let b : i + (1 + length rs) ≡ i + 1 + length rs = omega arith in
      (λ z. read G xs (a z) (b z)) ∙ all ∙ ap {B = Option Cover} Some (with_run0 rs r)
  read_cover (node0 op p) (cover1 rs r k) n i d h w = absurd h
  read_cover (node0 op p) (cover2 rs r k j) n i d h w = absurd h
  read_cover (node1 op p t) (cover0 rs r) n i d h w = absurd h
  read_cover (node1 op p t) (cover1 rs r k) n i d h w =
      let q = i + step_count k in
      let x = step r p q 0 in
      let ys = chain_steps rs p (q + 1) in
      let len = steps_length G t k h.1 i h.4 in
      let own : Holds xs q (x ∷ ys) = holds_back xs i q (steps_after i t k) (x ∷ ys) (omega arith) w in
      let kid = read_cover t k h.1 i d h.4 (holds_front xs i (steps_after i t k) (x ∷ ys) w) in
      let base : read G xs (suc (step_count k + d)) (q + 1) ≡ Some (cover1 [] r k) = read_at (step_count k + d) q (q + 1) x h.0 (base1 op h.1) (omega arith) (first_at q x ys own) h.3 ∙ ap (option_map (cover1 [] r)) kid in
      let all = read_run rs n h.0 p (q + 1) (suc (step_count k + d)) (cover1 [] r k) h.2.linked (holds_tail xs q x ys own) base in
      let a : step_count k + (1 + length rs) + d ≡ length rs + suc (step_count k + d) = omega arith in
      let b : i + (step_count k + (1 + length rs)) ≡ q + 1 + length rs = omega arith in
      (λ z. read G xs (a z) (b z)) ∙ all ∙ ap {B = Option Cover} Some (with_run1 rs r k)
  read_cover (node1 op p t) (cover2 rs r k j) n i d h w = absurd h
  read_cover (node2 op p t u) (cover0 rs r) n i d h w = absurd h
  read_cover (node2 op p t u) (cover1 rs r k) n i d h w = absurd h
  read_cover (node2 op p t u) (cover2 rs r k j) n i d h w =
      let q = i + step_count k in
      let v = q + step_count j in
      let x = step r p q v in
      let ys = chain_steps rs p (v + 1) in
      let lt = steps_length G t k h.1 i h.5 in
      let lu = steps_length G u j h.2 q h.6 in
      let rest : Holds xs q (steps_after q u j ++ x ∷ ys) = holds_back xs i q (steps_after i t k) (steps_after q u j ++ x ∷ ys) (omega arith) w in
      let own : Holds xs v (x ∷ ys) = holds_back xs q v (steps_after q u j) (x ∷ ys) (omega arith) rest in
      let kid = read_cover t k h.1 i (step_count j + d) h.5 (holds_front xs i (steps_after i t k) (steps_after q u j ++ x ∷ ys) w) in
      let cub = read_cover u j h.2 q (step_count k + d) h.6 (holds_front xs q (steps_after q u j) (x ∷ ys) rest) in
      let e = step_count k + (step_count j + d) in
      let same : step_count j + (step_count k + d) ≡ e = omega arith in
      let cub-too : read G xs e v ≡ Some j = subst (λ z. read G xs z v ≡ Some j) same cub in
      let base : read G xs (suc e) (v + 1) ≡ Some (cover2 [] r k j) = read_at e v (v + 1) x h.0 (base2 op h.1 h.2) (omega arith) (first_at v x ys own) h.4 ∙ (λ z. both r (kid z) (cub-too z)) in
      let all = read_run rs n h.0 p (v + 1) (suc e) (cover2 [] r k j) h.3.linked (holds_tail xs v x ys own) base in
      let a : step_count k + step_count j + (1 + length rs) + d ≡ length rs + suc e = omega arith in
      let b : i + (step_count k + step_count j + (1 + length rs)) ≡ v + 1 + length rs = omega arith in
      (λ z. read G xs (a z) (b z)) ∙ all ∙ ap {B = Option Cover} Some (with_run2 rs r k j)

module _ {C : Type 0} (G : Lists C) where
  read_all : (t : Tree) (k : Cover) (n : ℕ) → Covers G k t n → read G (steps t k) (length (steps t k)) (length (steps t k)) ≡ Some k
  read_all t k n h =
      let len = steps_length G t k n 0 h in
      let a : length (steps t k) ≡ step_count k + 0 = omega arith in
      let b : length (steps t k) ≡ 0 + step_count k = omega arith in
      (λ z. read G (steps t k) (a z) (b z)) ∙ read_cover G (steps t k) t k n 0 0 h (λ j x e. (let place : j ≡ 0 + j = omega arith in subst (λ z. slice_get (steps t k) z ≡ Some x) place e))

  pub steps_determine : (t u : Tree) (k j : Cover) (n o : ℕ) → Covers G k t n → Covers G j u o → steps t k ≡ steps u j → k ≡ j
  steps_determine t u k j n o h g e = some_is k j (sym (read_all t k n h) ∙ ap (λ z. read G z (length z) (length z)) e ∙ read_all u j o g)
