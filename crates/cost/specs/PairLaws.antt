-- The laws of `pair_model`, from those of its parts.
use Rattle.std.specs.Prelude.{◌≡◌, ◌+◌, ◌≤◌, refl}
use Rattle.std.specs.declared.cmp.Ordering.TheVariants.{Less, Equal, Greater}
use Rattle.std.specs.declared.cmp.Ordering.{Ordering}
use Rattle.std.proofs.Common.{ap, true≢false, arith}
use Rattle.std.specs.Cmp.{IsTotalOrder, tied_itself, then_total, on_total}
use Rattle.std.specs.Ordering.{ordering_then, is_lt, is_gt}
use Rattle.cost.specs.Model.{Model, Laws, limit}
use Rattle.cost.specs.Pairs.{pair, pair_model}
use Rattle.cost.specs.declared.Pair.{Pair}

module _ {C : Type 0} {m : Model C} (l : Laws m) where
  cmp_total : IsTotalOrder m.cmp
  cmp_total = record { antisymm = l.cmp_flip; trans = l.cmp_chain; congr = λ a b c e. ap (λ z. m.cmp z c) (l.cmp_same a b e) }

  -- each cost is the same as itself
  pub cmp_itself : (a : C) → m.cmp a a ≡ Equal
  cmp_itself = tied_itself cmp_total

module _ {A B : Type 0} {m : Model A} {n : Model B} (k : Laws m) (l : Laws n) where
  pair_total : IsTotalOrder (pair_model m n).cmp
  pair_total = then_total (on_total (λ p. p.first) (cmp_total k)) (on_total (λ p. p.second) (cmp_total l))

  same : (a b : Pair A B) (r : Ordering) → m.cmp a.first b.first ≡ r → ordering_then r (n.cmp a.second b.second) ≡ Equal → a ≡ b
  same a b Less p e = absurd (true≢false (ap is_lt e))
  same a b Equal p e = λ i. pair (k.cmp_same a.first b.first p i) (l.cmp_same a.second b.second e i)
  same a b Greater p e = absurd (true≢false (ap is_gt e))

  keeps : (a b c : Pair A B) (r : Ordering) → m.weight a.first + m.weight b.first + m.weight c.first ≤ limit → n.weight a.second + n.weight b.second + n.weight c.second ≤ limit → m.cmp a.first b.first ≡ r → ordering_then r (n.cmp a.second b.second) ≡ Less → (pair_model m n).cmp ((pair_model m n).sum a c) ((pair_model m n).sum b c) ≡ Less
  keeps a b c Less f g p e = rw (k.sum_keeps a.first b.first c.first f p)
  keeps a b c Equal f g p e = rw (k.cmp_same a.first b.first p, cmp_itself k) (l.sum_keeps a.second b.second c.second g e)
  keeps a b c Greater f g p e = absurd (true≢false (ap is_gt e))

  pub pair_laws : Laws (pair_model m n)
  pair_laws = record {
    cmp_flip = pair_total.antisymm;
    cmp_chain = pair_total.trans;
    cmp_same = λ a b e. same a b (m.cmp a.first b.first) refl e;
    sum_swap = λ a b h. λ i. pair (k.sum_swap a.first b.first (omega arith) i) (l.sum_swap a.second b.second (omega arith) i);
    sum_group = λ a b c h. λ i. pair (k.sum_group a.first b.first c.first (omega arith) i) (l.sum_group a.second b.second c.second (omega arith) i);
    sum_zero = λ a h. λ i. pair (k.sum_zero a.first (omega arith) i) (l.sum_zero a.second (omega arith) i);
    diff_sum = λ a b h. λ i. pair (k.diff_sum a.first b.first (omega arith) i) (l.diff_sum a.second b.second (omega arith) i);
    sum_keeps = λ a b c h e. keeps a b c (m.cmp a.first b.first) (omega arith) (omega arith) refl e;
    zero_weight = omega (arith, k.zero_weight, l.zero_weight);
    sum_weight = λ a b h. omega (arith, k.sum_weight a.first b.first (omega arith), l.sum_weight a.second b.second (omega arith));
    diff_weight = λ a b h. omega (arith, k.diff_weight a.first b.first (omega arith), l.diff_weight a.second b.second (omega arith));
  }
