-- The entries of a row, read back from its end.
use Rattle.std.proofs.Common.{◌≡◌, ℕ, zero, suc, ◌+◌, ◌-◌, ◌<◌, ◌≤◌, List, [], ◌∷◌, None, Option, sym, refl, ap, ◌∙◌, ⊎_elim, arith}
use Rattle.std.specs.List.{slice_get}
use Rattle.std.proofs.lemmas.Bool.{cases_lt}
use Rattle.covers.specs.Ranks.{at}
use Rattle.covers.specs.Rows.{Row}
use Rattle.entries.specs.declared.Entry.{Entry}
use Rattle.entries.specs.declared.RowEnd.{RowEnd}
use Rattle.entries.specs.Walks.{entry_at, before_of, choice_in, back, rows_from}
use Rattle.rows.specs.Stored.{row_back}
use Rattle.rows.specs.Meaning.{row_at}

-- what stands k entries back from the place p, where c stands there
abbrev pub spin : {C : Type 0} → List (Entry C) → ℕ → Option ℕ → Option (ℕ × C) → Option (ℕ × C)
spin es zero p c = c
spin es (suc k) p c = spin es k (before_of (entry_at es p)) (choice_in (entry_at es p))

module _ {C : Type 0} (es : List (Entry C)) where
  spin_head : (k : ℕ) (p : Option ℕ) (ys : Row C) → spin es k p (at ys 0) ≡ at (back es k p ys) 0
  spin_head zero p ys = refl
  spin_head (suc k) p ys = spin_head k (before_of (entry_at es p)) (choice_in (entry_at es p) ∷ ys)

  at_back : (k : ℕ) (p : Option ℕ) (ys : Row C) (i j : ℕ) → j ≡ k + i → at (back es k p ys) j ≡ at ys i
  at_back zero p ys i j e = (let z : j ≡ i = omega arith in ap (at ys) z)
  at_back (suc k) p ys i j e = (let z : j ≡ k + suc i = omega arith in at_back k (before_of (entry_at es p)) (choice_in (entry_at es p) ∷ ys) (suc i) j z)

  back_split : (k n q : ℕ) (p : Option ℕ) (ys : Row C) → q ≡ k + n → (o : Option ℕ) × (back es q p ys ≡ back es n o (back es k p ys))
  back_split zero n q p ys e = (p, (let z : q ≡ n = omega arith in ap (λ i. back es i p ys) z))
  back_split (suc k) n q p ys e =
      let z : q ≡ suc (k + n) = omega arith in
      let r = back_split k n (k + n) (before_of (entry_at es p)) (choice_in (entry_at es p) ∷ ys) refl in
      (r.0, ap (λ i. back es i p ys) z ∙ r.1)

  -- what is read by going back
  pub reads : (w n : ℕ) (e : Option ℕ) → spin es (w - n) e None ≡ at (back es w e []) n
  reads w n e =
      ⊎_elim
      (λ (h : w < n).
      let z : w - n ≡ 0 = omega arith in
      let past : n ≡ w + (n - w) = omega arith in
      ap (λ k. spin es k e None) z ∙ sym (at_back w e [] (n - w) n past))
      (λ (h : n ≤ w).
      let z : w ≡ (w - n) + n = omega arith in
      let here : n ≡ n + 0 = omega arith in
      let r = back_split (w - n) n w e [] z in
      spin_head (w - n) e [] ∙ sym (ap (λ x. at x n) r.1 ∙ at_back n r.0 (back es (w - n) e []) 0 n here))
      (cases_lt w n)

-- one turn of the way back
pub spin_more : {C : Type 0} (es : List (Entry C)) (w i : ℕ) (p : Option ℕ) (c : Option (ℕ × C)) → i < w → spin es (w - i) p c ≡ spin es (w - (i + 1)) (before_of (entry_at es p)) (choice_in (entry_at es p))
spin_more es w i p c h = (let z : w - i ≡ suc (w - (i + 1)) = omega arith in ap (λ k. spin es k p c) z)

-- the row of a label is the one that ends at the end of the label
pub row_stored : {C : Type 0} (w : ℕ) (es : List (Entry C)) (ps : List RowEnd) (label : ℕ) → row_back es w (slice_get ps label) ≡ row_at (rows_from w es ps) label
row_stored w es [] label = refl
row_stored w es (p ∷ ps) zero = refl
row_stored w es (p ∷ ps) (suc label) = row_stored w es ps label
