-- How a walk goes on, entry by entry.
use Rattle.std.proofs.Common.{◌≡◌, ℕ, ◌+◌, ◌<◌, List, [], ◌∷◌, ◌++◌, map, length, get_or, take, drop, Some, None, Option, sym, refl, ap, ◌∙◌, arith}
use Rattle.std.proofs.lemmas.List.{take_more, take-append-drop, length-map, get_or-map}
use Rattle.cost.specs.Model.{Model}
use Rattle.covers.specs.Rows.{Row, cost_entry}
use Rattle.row.specs.Views.{kept_of, row_in}
use Rattle.row.specs.declared.work.Work.{Work}
use Rattle.table.specs.declared.Table.{Table}
use Rattle.table.specs.Keys.{KeyModel, place_of}
use Rattle.table.specs.Tables.{Means}
use Rattle.table.proofs.Places.{place_held}
use Rattle.table.proofs.Meaning.{means_few}
use Rattle.entries.specs.declared.Entry.{Entry}
use Rattle.entries.specs.Keys.{entry_key, entry_after}
use Rattle.entries.specs.Walks.{onward, walk}
use Rattle.entries.proofs.Walking.{walk_last}

module _ {C : Type 0} (m : Model C) (es : List (Entry C)) where
  onward_by : {A B : Type 0} (o : Option A) (f g : A → Option B) → onward o f ≡ None → ((x : A) → f x ≡ None → g x ≡ None) → onward o g ≡ None
  onward_by None f g e h = refl
  onward_by (Some x) f g e h = h x e

  -- a walk that does not go through does not go on
  pub walk_stuck : (b : Option ℕ) (xs ys : Row C) → walk m es b xs ≡ None → walk m es b (xs ++ ys) ≡ None
  walk_stuck b [] ys e = absurd (let z : ◌≡◌ {A = ℕ} 0 1 = cc in omega arith)
  walk_stuck b (x ∷ xs) ys e =
      onward_by (place_of (entry_key m) es (entry_after b x)) (λ p. walk m es (Some p) xs) (λ p. walk m es (Some p) (xs ++ ys)) e (λ p k. walk_stuck (Some p) xs ys k)

  -- one entry more that is found
  pub walk_more : (x : Row C) (i p : ℕ) (y : Option (ℕ × C)) (end : Option ℕ) → i < length x → y ≡ get_or x i None → walk m es None (take i x) ≡ Some end → Some p ≡ place_of (entry_key m) es (entry_after end y) → walk m es None (take (i + 1) x) ≡ Some (Some p)
  walk_more x i p y end h q e f =
      ap (walk m es None) (take_more x i None h) ∙ walk_last m es None (take i x) (get_or x i None) end e ∙ ap (λ z. onward (place_of (entry_key m) es (entry_after end z)) (λ p. Some (Some p))) (sym q) ∙ ap (λ z. onward z (λ p. Some (Some p))) (sym f)

  -- or that is not
  pub walk_ends : (x : Row C) (i : ℕ) (y : Option (ℕ × C)) (end : Option ℕ) → i < length x → y ≡ get_or x i None → walk m es None (take i x) ≡ Some end → None ≡ place_of (entry_key m) es (entry_after end y) → None ≡ walk m es None x
  walk_ends x i y end h q e f =
      let stop = ap (walk m es None) (take_more x i None h) ∙ walk_last m es None (take i x) (get_or x i None) end e ∙ ap (λ z. onward (place_of (entry_key m) es (entry_after end z)) (λ p. Some (Some p))) (sym q) ∙ ap (λ z. onward z (λ p. Some (Some p))) (sym f) in
      sym (ap (walk m es None) (sym (take-append-drop (i + 1) x)) ∙ walk_stuck None (take (i + 1) x) (drop (i + 1) x) stop)

-- what a work place holds is an entry of the row
pub row_item : {C : Type 0} (ws : List (Option (Work C))) (i : ℕ) (x : Option (Work C)) → i < length ws → x ≡ get_or ws i x → cost_entry (kept_of x) ≡ get_or (row_in ws) i None
row_item ws i x h e =
    let inner : i < length (map kept_of ws) = simp length-map h in
    ap (λ z. cost_entry (kept_of z)) e ∙ ap cost_entry (sym (get_or-map kept_of ws i x (kept_of x) h)) ∙ sym (get_or-map cost_entry (map kept_of ws) i (kept_of x) None inner)

pub row_long : {C : Type 0} (ws : List (Option (Work C))) → length (row_in ws) ≡ length ws
row_long ws = simp length-map

-- a place in a table is named by 32 bits
pub place_small : {K : Type 0} {g : _} (k : KeyModel K) (t : Table K g) (keys : List K) (x : K) (p : ℕ) → Means k t keys → Some p ≡ place_of k keys x → p < 4294967296
place_small k t keys x p h e =
    let below = (place_held k keys x p (sym e)).0 in
    let few = means_few t keys h in
    omega arith
