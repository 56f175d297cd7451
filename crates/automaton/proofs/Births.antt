-- Births that are refused, and those that are not.
use Rattle.std.proofs.Common.{◌≡◌, ℕ, zero, suc, ◌*◌, ◌/◌, ◌<◌, ◌≤◌, min, Bool, true, false, cond, ◌&&◌, leb, List, map, length, Some, None, sym, refl, ap, ◌∙◌, mul-le-mul, le-div_iff_mul-le, arith}
use Rattle.std.proofs.lemmas.List.{length-map}
use Rattle.std.proofs.lemmas.Bool.{and_parts, leb-true, eq-eqb, ne_eqb}
use Rattle.label.specs.declared.refusals.BirthRefusal.TheVariants.{Capacity as OutOfRange, Memory as TooShort}
use Rattle.table.specs.Chains.{room_for}
use Rattle.rows.specs.Meaning.{rows_in}
use Rattle.automaton.specs.declared.Capacities.{Capacities}
use Rattle.automaton.specs.Birth.{Lengths, in_range, ranged, enough, birth}

pub long_as : {A B : Type 0} (f : A → B) (xs : List A) (ys : List B) → map f xs ≡ ys → length xs ≡ length ys
long_as f xs ys e = sym (length-map xs f) ∙ ap length e

pub record Ranges (c : Capacities) : Type 0 where
  pub nodes : c.nodes ≤ 2048
  pub keys : c.keys ≤ 65536
  pub rows : c.rows ≤ 4096

pub ranges : (c : Capacities) → ranged c ≡ true → Ranges c
ranges c e =
    let a = and_parts (in_range c.nodes 2048) (in_range c.keys 65536 && in_range c.rows 4096) e in
    let b = and_parts (in_range c.keys 65536) (in_range c.rows 4096) a.1 in
    record {
      nodes = leb-true c.nodes 2048 (and_parts (leb 1 c.nodes) (leb c.nodes 2048) a.0).1;
      keys = leb-true c.keys 65536 (and_parts (leb 1 c.keys) (leb c.keys 65536) b.0).1;
      rows = leb-true c.rows 4096 (and_parts (leb 1 c.rows) (leb c.rows 4096) b.1).1;
    }

pub record Fits (c : Capacities) (n : ℕ) (x : Lengths) : Type 0 where
  pub nodes : c.nodes ≤ x.nodes
  pub keys : c.keys ≤ x.keys
  pub labels : c.rows ≤ x.labels
  pub rows : c.rows * n ≤ x.rows
  pub work : n ≤ x.work

pub fits : (c : Capacities) (n : ℕ) (x : Lengths) → enough c n x ≡ true → Fits c n x
fits c n x e =
    let p = and_parts (leb c.nodes x.nodes) (leb c.keys x.keys && (leb c.rows x.labels && (leb (c.rows * n) x.rows && leb n x.work))) e in
    let q = and_parts (leb c.keys x.keys) (leb c.rows x.labels && (leb (c.rows * n) x.rows && leb n x.work)) p.1 in
    let r = and_parts (leb c.rows x.labels) (leb (c.rows * n) x.rows && leb n x.work) q.1 in
    let s = and_parts (leb (c.rows * n) x.rows) (leb n x.work) r.1 in
    record {
      nodes = leb-true c.nodes x.nodes p.0;
      keys = leb-true c.keys x.keys q.0;
      labels = leb-true c.rows x.labels r.0;
      rows = leb-true (c.rows * n) x.rows s.0;
      work = leb-true n x.work s.1;
    }

module _ (c : Capacities) (n : ℕ) (x : Lengths) where
  pub birth_range : false ≡ ranged c → birth c n x ≡ Some OutOfRange
  birth_range e = ap (λ b. cond b (cond (enough c n x) None (Some TooShort)) (Some OutOfRange)) (sym e)

  pub birth_by : (b : Bool) → true ≡ ranged c → enough c n x ≡ b → birth c n x ≡ cond b None (Some TooShort)
  birth_by b e f = ap (λ b. cond b (cond (enough c n x) None (Some TooShort)) (Some OutOfRange)) (sym e) ∙ ap (λ b. cond b None (Some TooShort)) f

-- as many rows find place as there are labels, where each has a place for each nonterminal
pub rows_fit : (s e S w : ℕ) → S ≤ s → S * w ≤ e → S ≤ 4096 → w ≤ 32 → S ≤ rows_in (room_for s) (room_for e) w
rows_fit s e S zero a b c d =
    let z : rows_in (room_for s) (room_for e) zero ≡ room_for s = ap (λ t. cond t (room_for s) (min (room_for s) (room_for e / zero))) (eq-eqb 0 0 refl) in
    omega arith
rows_fit s e S (suc w) a b c d =
    let other : suc w ≡ 0 → ⊥ = λ z. omega arith in
    let z : rows_in (room_for s) (room_for e) (suc w) ≡ min (room_for s) (room_for e / suc w) = ap (λ t. cond t (room_for s) (min (room_for s) (room_for e / suc w))) (ne_eqb (suc w) 0 other) in
    let small = mul-le-mul c d in
    let all : S * suc w ≤ room_for e = omega arith in
    let p : 0 < suc w = omega arith in
    let k = (le-div_iff_mul-le {k = suc w} {x = S} {y = room_for e} p).1 all in
    omega arith
