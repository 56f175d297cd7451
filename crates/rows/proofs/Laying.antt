-- The entries of a row, put one after another.
use Rattle.std.proofs.Common.{◌≡◌, ℕ, ◌+◌, ◌<◌, ◌≤◌, Bool, true, false, cond, List, [], ◌∷◌, ◌++◌, length, get_or, take, Some, None, Ok, Err, Option, Result, sym, refl, ap, ◌∙◌, subst, ⊎_elim, arith}
use Rattle.std.proofs.lemmas.List.{take_more, length-take, length-append}
use Rattle.cost.specs.Model.{Model, Laws}
use Rattle.covers.specs.Rows.{Row}
use Rattle.table.specs.declared.Refusal.{Refusal}
use Rattle.table.specs.declared.Table.{Table}
use Rattle.table.specs.Keys.{place_of, adds, put_answer, put_keys}
use Rattle.table.specs.Tables.{Means, keys_of, room_of}
use Rattle.table.proofs.Places.{place_cases, put_held, put_new, put_found}
use Rattle.entries.specs.declared.Entry.{Entry}
use Rattle.entries.specs.Keys.{entry_key, entry_after}
use Rattle.entries.specs.Walks.{onward, walk}
use Rattle.entries.specs.Laws.{entry_own}
use Rattle.entries.proofs.Walking.{walk_push, walk_last}
use Rattle.rows.specs.Laying.{LaysRow}
use Rattle.rows.proofs.Walked.{place_small}

-- the entries fs come after es, and the row x walks through them to its end
pub record Laid {C : Type 0} (m : Model C) (es fs : List (Entry C)) (x : Row C) (end : Option ℕ) : Type 0 where
  pub few : length fs ≤ length es + length x
  pub grows : (y : Row C) (e : Option ℕ) → walk m es None y ≡ Some e → walk m fs None y ≡ Some e
  pub walked : walk m fs None x ≡ Some end

-- all of the row
pub lays : {C : Type 0} (m : Model C) (es fs : List (Entry C)) (x : Row C) (end : Option ℕ) → Laid m es fs x end → LaysRow m es fs x (Ok end)
lays m es fs x end h = record { few = h.few; grows = h.grows; end = end; answer = refl; walked = h.walked }

pub laid_none : {C : Type 0} (m : Model C) (es : List (Entry C)) (x : Row C) → Laid m es es (take 0 x) None
laid_none m es x = record { few = omega arith; grows = λ y e k. k; walked = refl }

grown : {C : Type 0} (m : Model C) (b : Bool) (fs : List (Entry C)) (k : Entry C) (y : Row C) (e : Option ℕ) → walk m fs None y ≡ Some e → walk m (cond b (fs ++ k ∷ []) fs) None y ≡ Some e
grown m true fs k y e h = walk_push m fs k None y e h
grown m false fs k y e h = h

longer : {A : Type 0} (b : Bool) (xs : List A) (x : A) → length (cond b (xs ++ x ∷ []) xs) ≤ length xs + 1
longer true xs x = (let e = length-append xs (x ∷ []) in omega arith)
longer false xs x = omega arith

-- the row x, laid as far as its entry i in a table that had the entries es, and its next entry
module _ {C : Type 0} {g : _} {m : Model C} (l : Laws m) (t : Table (Entry C) g) (es : List (Entry C)) (x : Row C) (i : ℕ) (end : Option ℕ) (y : Option (ℕ × C)) (k : Entry C) (inside : i < length x) (room : length es + length x ≤ room_of t) (laid : Laid m es (keys_of t) (take i x) end) (same : y ≡ get_or x i None) (is : k ≡ entry_after end y) where
  abbrev pub fs : List (Entry C)
  fs = keys_of t

  space : length fs < room_of t
  space = (let f = laid.few in let s = length-take i x in omega arith)

  found : (p : ℕ) → Ok p ≡ put_answer (entry_key m) (room_of t) fs k → place_of (entry_key m) (put_keys (entry_key m) (room_of t) fs k) k ≡ Some p
  found p a = put_found (entry_key m) (room_of t) fs k p (entry_own l k) (sym a)

  -- one entry more
  more : (p : ℕ) → Ok p ≡ put_answer (entry_key m) (room_of t) fs k → Laid m es (put_keys (entry_key m) (room_of t) fs k) (take (i + 1) x) (Some p)
  more p a =
      let b = adds (entry_key m) (room_of t) fs k in
      let next = grown m b fs k (take i x) end laid.walked in
      record {
        few = (let a = longer b fs k in let f = laid.few in let s = length-take i x in let q = length-take (i + 1) x in omega arith);
        grows = λ z e w. grown m b fs k z e (laid.grows z e w);
        walked = ap (walk m (put_keys (entry_key m) (room_of t) fs k) None) (take_more x i None inside) ∙ walk_last m (put_keys (entry_key m) (room_of t) fs k) None (take i x) (get_or x i None) end next ∙ ap (λ z. onward (place_of (entry_key m) (put_keys (entry_key m) (room_of t) fs k) z) (λ q. Some (Some q))) (ap (entry_after end) (sym same) ∙ sym is) ∙ ap (λ z. onward z (λ q. Some (Some q))) (found p a);
      }

  -- there is always a place for it
  pub laid_refused : (e : Refusal) → Err e ≡ put_answer (entry_key m) (room_of t) fs k → ⊥
  laid_refused e a =
      ⊎_elim
      (λ (h : (j : ℕ) × (place_of (entry_key m) fs k ≡ Some j)). clash (a ∙ (put_held (entry_key m) (room_of t) fs k h.0 h.1).0))
      (λ (h : place_of (entry_key m) fs k ≡ None). clash (a ∙ (put_new (entry_key m) (room_of t) fs k h space).0))
      (place_cases (entry_key m) fs k)
    where
      clash : {j : ℕ} → ◌≡◌ {A = Result ℕ Refusal} (Err e) (Ok j) → ⊥
      clash q = (let z : ◌≡◌ {A = ℕ} 0 1 = cc in omega arith)

  -- the table once the entry is put
  module _ (u : Table (Entry C) g) (h : Means (entry_key m) u (keys_of u)) (after : keys_of u ≡ put_keys (entry_key m) (room_of t) fs k) where
    pub laid_more : (p : ℕ) → Ok p ≡ put_answer (entry_key m) (room_of t) fs k → Laid m es (keys_of u) (take (i + 1) x) (Some p)
    laid_more p a = subst (λ ks. Laid m es ks (take (i + 1) x) (Some p)) (sym after) (more p a)

    pub laid_small : (p : ℕ) → Ok p ≡ put_answer (entry_key m) (room_of t) fs k → p < 4294967296
    laid_small p a =
        place_small (entry_key m) u (keys_of u) k p h (sym (ap (λ ks. place_of (entry_key m) ks k) after ∙ found p a))
