-- The row of the newest node, moved to its place among the others.
use Rattle.std.proofs.Common.{◌≡◌, ℕ, ◌+◌, ◌-◌, ◌*◌, ◌<◌, ◌≤◌, List, length, take, drop, Option, sym, ap, ◌∙◌, mul-le-mul_right, add-mul, arith}
use borrow.Rule.Slice.PartMut.{put_mid}
use Rattle.std.proofs.lemmas.Slice.{between_is, between-put_mid, take-put_mid_below}
use Rattle.row.specs.Views.{row_in}
use Rattle.row.specs.declared.work.Work.{Work}
use Rattle.plain.specs.Rows.{RowMoved}

part : {A : Type 0} (xs : List A) (a n : ℕ) → take n (drop a xs) ≡ drop a (take (a + n) xs)
part xs a n = (let e : n ≡ (a + n) - a = omega arith in ap (λ z. take z (drop a xs)) e ∙ between_is xs a (a + n))

-- the places of node i end where those of node j begin, or before, where i is before j
pub ends_before : (n i j : ℕ) → i < j → i * n + n ≤ j * n
ends_before n i j h = (let k : i + 1 ≤ j = omega arith in omega (arith, mul-le-mul_right n k, add-mul i 1 n))

module _ {C : Type 0} (row : List (Option (Work C))) (k : ℕ) (xs : List (Option (Work C))) where
  abbrev n : ℕ
  n = length row

  pub row_moved : (a j : ℕ) (ys : List (Option (Work C))) → 0 < k → a ≡ (k - 1) * n → a + n ≤ length xs → ys ≡ row → RowMoved row k xs (put_mid a j xs ys)
  row_moved a j ys pos e fits same =
      let zs = put_mid a j xs ys in
      let long : length ys ≡ n = ap length same in
      record {
        moved = λ i q l.
            let at_place : i ≡ k - 1 = omega arith in
            let place : i * n ≡ a = ap (λ z. z * n) at_place ∙ sym e in
            let wide : n ≡ (a + n) - a = omega arith in
            ap row_in (
            ap (λ z. take n (drop z zs)) place ∙ ap (λ z. take z (drop a zs)) wide
            ∙ between-put_mid a j xs ys (a + n) (omega arith) (omega arith) ∙ same
            );
        others = λ i h.
            let before : i * n + n ≤ a = omega (arith, ends_before n i (k - 1) (omega arith)) in
            ap row_in (part zs (i * n) n ∙ ap (drop (i * n)) (take-put_mid_below a j xs ys (i * n + n) before (omega arith)) ∙ sym (part xs (i * n) n));
      }
