-- What entries and ends say of the rows that they keep.
use Rattle.std.proofs.Common.{◌≡◌, ℕ, zero, suc, ◌+◌, ◌*◌, ◌≤◌, Bool, true, false, cond, List, [], ◌∷◌, ◌++◌, map, length, Some, None, Option, sym, refl, ap, ◌∙◌, subst, ⊎_elim, add-mul, one-mul, arith}
use Rattle.std.proofs.lemmas.List.{append-nil, length-map, length_push, map_push}
use Rattle.std.proofs.lemmas.Bool.{cases_Bool}
use Rattle.std.specs.List.{slice_get}
use Rattle.std.specs.Option.{option_map}
use Rattle.cost.specs.Model.{Model, Laws}
use Rattle.covers.specs.Held.{In, same_row}
use Rattle.covers.specs.Rows.{Row}
use Rattle.covers.proofs.Labels.{same_row_tells}
use Rattle.covers.proofs.Nths.{nth_more}
use Rattle.covers.proofs.Relaxing.{some_is, none_some}
use Rattle.table.specs.Keys.{place_of}
use Rattle.entries.specs.declared.Entry.{Entry}
use Rattle.entries.specs.declared.RowEnd.{RowEnd}
use Rattle.entries.specs.Keys.{end_key, same_link}
use Rattle.entries.specs.Walks.{back, walk, Keeps, row_place, rows_from}
use Rattle.entries.specs.Laws.{link_own, link_tells}
use Rattle.entries.proofs.Seen.{seen_first, seen_none}
use Rattle.entries.proofs.Walking.{back_walk, walk_once}

-- the end at b
abbrev pub end_at : Option ℕ → RowEnd
end_at b = record { 0 = b }

-- two tests that hold in the same cases are one
same_tests : (a b : Bool) → (a ≡ true → b ≡ true) → (b ≡ true → a ≡ true) → a ≡ b
same_tests true b h k = sym (h refl)
same_tests false true h k = k refl
same_tests false false h k = refl

head_is : {A : Type 0} (x y : A) (xs ys : List A) → x ∷ xs ≡ y ∷ ys → x ≡ y
head_is x y xs ys e = cc

tail_is : {A : Type 0} (x y : A) (xs ys : List A) → x ∷ xs ≡ y ∷ ys → xs ≡ ys
tail_is x y xs ys e = cc

nil_cons : {A : Type 0} (x : A) (xs : List A) → [] ≡ x ∷ xs → ⊥
nil_cons x xs e = let z : ◌≡◌ {A = ℕ} 0 1 = cc in omega arith

module _ {C : Type 0} where
  row_end : (f : Row C → Option (Option ℕ)) (ps : List RowEnd) (rows : List (Row C)) → map f rows ≡ map (λ e. Some e.0) ps
      → (y : Row C) (i : ℕ) → slice_get rows i ≡ Some y → (e : RowEnd) × (f y ≡ Some e.0)
  row_end f ps [] q y i h = absurd (none_some y h)
  row_end f [] (x ∷ xs) q y i h = absurd (nil_cons _ _ (sym q))
  row_end f (p ∷ ps) (x ∷ xs) q y zero h = (p, ap f (sym (some_is x y h)) ∙ head_is _ _ _ _ q)
  row_end f (p ∷ ps) (x ∷ xs) q y (suc i) h = row_end f ps xs (tail_is _ _ _ _ q) y i h

  pub map_kept : (f g : Row C → Option (Option ℕ)) → ((x : Row C) (e : Option ℕ) → f x ≡ Some e → g x ≡ Some e)
      → (ps : List RowEnd) (rows : List (Row C)) → map f rows ≡ map (λ p. Some p.0) ps → map g rows ≡ map (λ p. Some p.0) ps
  map_kept f g h [] [] q = refl
  map_kept f g h [] (y ∷ ys) q = absurd (nil_cons _ _ (sym q))
  map_kept f g h (p ∷ ps) [] q = absurd (nil_cons _ _ q)
  map_kept f g h (p ∷ ps) (y ∷ ys) q =
      let a = h y p.0 (head_is _ _ _ _ q) in
      let b = map_kept f g h ps ys (tail_is _ _ _ _ q) in
      λ t. a t ∷ b t

module _ {C : Type 0} {m : Model C} where
  pub keeps_none : (w : ℕ) → Keeps m w [] [] []
  keeps_none w = record { wide = λ x h. absurd (none_some x h.1); few = omega arith; ended = refl }

  -- as many ends as rows
  pub keeps_count : (w : ℕ) (es : List (Entry C)) (ps : List RowEnd) (rows : List (Row C)) → Keeps m w es ps rows → length ps ≡ length rows
  keeps_count w es ps rows h =
      sym (length-map ps (λ e. Some e.0)) ∙ ap length (sym h.ended) ∙ length-map rows (walk m es None)

  module _ (l : Laws m) where
    unlike : (y x : Row C) → (y ≡ x → ⊥) → same_row m y x ≡ false
    unlike y x h =
        ⊎_elim (λ (e : same_row m y x ≡ true). absurd (h ((same_row_tells l y x).0 e))) (λ (e : same_row m y x ≡ false). e) (cases_Bool (same_row m y x))

    -- a row of another width is not kept
    pub keeps_narrow : (w : ℕ) (es : List (Entry C)) (ps : List RowEnd) (rows : List (Row C)) → Keeps m w es ps rows → (x : Row C)
        → (length x ≡ w → ⊥) → row_place m rows x ≡ None
    keeps_narrow w es ps rows h x n =
        seen_none (same_row m) rows x (λ y k. unlike y x (λ e. n (ap length (sym e) ∙ h.wide y k)))

    -- a row whose walk does not go through is not kept
    pub keeps_absent : (w : ℕ) (es : List (Entry C)) (ps : List RowEnd) (rows : List (Row C)) → Keeps m w es ps rows → (x : Row C)
        → walk m es None x ≡ None → row_place m rows x ≡ None
    keeps_absent w es ps rows h x n =
        seen_none (same_row m) rows x
        (λ y k. unlike y x (λ e.
        let r = row_end (walk m es None) ps rows h.ended y k.0 k.1 in
        none_some r.0.0 (sym n ∙ ap (walk m es None) (sym e) ∙ r.1)))

    same_end : (w : ℕ) (es : List (Entry C)) (x y : Row C) (p : RowEnd) (e : Option ℕ) → length x ≡ w → length y ≡ w
        → walk m es None x ≡ Some e → walk m es None y ≡ Some p.0 → end_key.same p (end_at e) ≡ same_row m y x
    same_end w es x y p e i j h k =
        same_tests (same_link p.0 e) (same_row m y x)
        (λ s. (same_row_tells l y x).1 (walk_once l es y x e (j ∙ sym i) (k ∙ ap (λ z. Some z) (link_tells p.0 e s)) h))
        (λ s.
        let q : e ≡ p.0 = some_is _ _ (sym h ∙ ap (walk m es None) (sym ((same_row_tells l y x).0 s)) ∙ k) in
        ap (λ z. same_link p.0 z) q ∙ link_own p.0)

    pub places : (w : ℕ) (es : List (Entry C)) (x : Row C) (e : Option ℕ) → length x ≡ w → walk m es None x ≡ Some e
        → (ps : List RowEnd) (rows : List (Row C)) → map (walk m es None) rows ≡ map (λ p. Some p.0) ps
        → ((y : Row C) → In y rows → length y ≡ w) → place_of end_key ps (end_at e) ≡ row_place m rows x
    unfolding place_of
    places w es x e i h [] [] q wide = refl
    places w es x e i h [] (y ∷ ys) q wide = absurd (nil_cons _ _ (sym q))
    places w es x e i h (p ∷ ps) [] q wide = absurd (nil_cons _ _ q)
    places w es x e i h (p ∷ ps) (y ∷ ys) q wide =
        let b = same_end w es x y p e i (wide y (0, refl)) h (head_is _ _ _ _ q) in
        let rest = places w es x e i h ps ys (tail_is _ _ _ _ q) (λ z k. wide z (suc k.0, k.1)) in
        (λ t. cond (b t) (Some 0) (option_map suc (rest t))) ∙ sym (seen_first (same_row m) y ys x)

    -- the place of a row's end among the ends is the row's place among the rows
    pub keeps_place : (w : ℕ) (es : List (Entry C)) (ps : List RowEnd) (rows : List (Row C)) → Keeps m w es ps rows → (x : Row C)
        (e : Option ℕ) → length x ≡ w → walk m es None x ≡ Some e → place_of end_key ps (end_at e) ≡ row_place m rows x
    keeps_place w es ps rows h x e i k = places w es x e i k ps rows h.ended h.wide

  module _ (l : Laws m) where
    ends_rows : (w : ℕ) (es : List (Entry C)) (ps : List RowEnd) (rows : List (Row C)) → map (walk m es None) rows ≡ map (λ p. Some p.0) ps
        → ((x : Row C) → In x rows → length x ≡ w) → rows_from w es ps ≡ rows
    ends_rows w es [] [] q wide = refl
    ends_rows w es [] (y ∷ ys) q wide = absurd (nil_cons _ _ (sym q))
    ends_rows w es (p ∷ ps) [] q wide = absurd (nil_cons _ _ q)
    ends_rows w es (p ∷ ps) (y ∷ ys) q wide =
        let z : w ≡ length y + 0 = omega (arith, wide y (0, refl)) in
        let first : back es w p.0 [] ≡ y = back_walk l es y w 0 None p.0 [] z (head_is _ _ _ _ q) ∙ append-nil y in
        let rest = ends_rows w es ps ys (tail_is _ _ _ _ q) (λ x k. wide x (suc k.0, k.1)) in
        λ t. first t ∷ rest t

    -- the rows kept are those that are read back from the ends
    pub kept_rows : (w : ℕ) (es : List (Entry C)) (ps : List RowEnd) (rows : List (Row C)) → Keeps m w es ps rows → rows_from w es ps ≡ rows
    kept_rows w es ps rows h = ends_rows w es ps rows h.ended h.wide

    pub keeps_own : (w : ℕ) (es : List (Entry C)) (ps : List RowEnd) (rows : List (Row C)) → Keeps m w es ps rows
        → Keeps m w es ps (rows_from w es ps)
    keeps_own w es ps rows h = subst (Keeps m w es ps) (sym (kept_rows w es ps rows h)) h

  -- one row more: the old walks end as before, the new one at the new end, and there are at most w entries more
  pub keeps_more : (w : ℕ) (es fs : List (Entry C)) (ps : List RowEnd) (rows : List (Row C)) → Keeps m w es ps rows → (x : Row C)
      (e : Option ℕ) → ((y : Row C) (c : Option ℕ) → walk m es None y ≡ Some c → walk m fs None y ≡ Some c)
      → length fs ≤ length es + w → length x ≡ w → walk m fs None x ≡ Some e → Keeps m w fs (ps ++ end_at e ∷ []) (rows ++ x ∷ [])
  keeps_more w es fs ps rows h x e grows n i k = record {
    wide = λ y q. ⊎_elim (λ (o : slice_get rows q.0 ≡ Some y). h.wide y (q.0, o)) (λ (o : (q.0 ≡ length rows) × (x ≡ y)). ap length (sym o.1) ∙ i) (nth_more rows x q.0 y q.1);
    few =
        let one = length_push rows x in
        let more : length (rows ++ x ∷ []) * w ≡ length rows * w + w = ap (λ z. z * w) one ∙ add-mul (length rows) 1 w ∙ ap (λ z. length rows * w + z) (one-mul w) in
        omega (arith, h.few);
    ended =
        map_push (walk m fs None) rows x
        ∙ (λ t. map_kept (walk m es None) (walk m fs None) grows ps rows h.ended t ++ k t ∷ [])
        ∙ sym (map_push (λ (p : RowEnd). Some p.0) ps (end_at e));
  }
