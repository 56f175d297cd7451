-- What a mark on a place changes.
use Rattle.std.proofs.Common.{◌≡◌, ℕ, ◌<◌, Bool, true, false, ◌||◌, eqb, List, [], ◌∷◌, map, length, get_or, set, sym, refl, ap, ◌∙◌, ⊎_elim}
use Rattle.std.proofs.lemmas.List.{get_or-map, get_or-set_same, get_or-set_other, map-set, set-get_or, length-set}
use Rattle.std.proofs.lemmas.Bool.{cases_eq, eq-eqb, ne_eqb}
use Rattle.nodes.specs.declared.NodePlace.{NodePlace}
use Rattle.nodes.specs.Checks.{among}
use Rattle.nodes.specs.Places.{Marked}
use Rattle.nodes.specs.Views.{node_of, label_of}

-- a write that f does not see
set_unseen : {A B : Type 0} (f : A → B) (xs : List A) (k : ℕ) (d p : A) → k < length xs → f p ≡ f (get_or xs k d) → map f (set xs k p) ≡ map f xs
set_unseen f xs k d p l e =
    map-set f xs k p ∙ ap (λ z. set (map f xs) k z) (e ∙ sym (get_or-map f xs k d (f d) l)) ∙ set-get_or (map f xs) k (f d)

-- a place once it is marked
abbrev pub marked : NodePlace → NodePlace
marked p = record { node = p.node; label = p.label; is_kid = true }

or_true : (b c : Bool) → c ≡ true → true ≡ (b || (c || false))
or_true true c e = refl
or_true false c e = rw e refl

or_false : (b c : Bool) → c ≡ false → b ≡ (b || (c || false))
or_false true c e = refl
or_false false c e = rw e refl

mark_at : (xs : List NodePlace) (k : ℕ) (e d : NodePlace) (i : ℕ) → k < length xs
    → (get_or (set xs k (marked (get_or xs k e))) i d).is_kid ≡ ((get_or xs i d).is_kid || among i (k ∷ []))
mark_at xs k e d i l =
    ⊎_elim
    (λ (q : i ≡ k).
    ap (λ z. (get_or (set xs k (marked (get_or xs k e))) z d).is_kid) q
    ∙ ap (λ (p : NodePlace). p.is_kid) (get_or-set_same xs k (marked (get_or xs k e)) d l)
    ∙ or_true (get_or xs i d).is_kid (eqb i k) (eq-eqb i k q))
    (λ (q : i ≡ k → ⊥).
    ap (λ (p : NodePlace). p.is_kid) (get_or-set_other xs k i (marked (get_or xs k e)) d q)
    ∙ or_false (get_or xs i d).is_kid (eqb i k) (ne_eqb i k q))
    (cases_eq i k)

pub mark_sets : (xs : List NodePlace) (k : ℕ) (e : NodePlace) → k < length xs → Marked xs (k ∷ []) (set xs k (marked (get_or xs k e)))
mark_sets xs k e l = record {
  size = length-set xs k (marked (get_or xs k e));
  nodes = set_unseen (λ (p : NodePlace). node_of p.node) xs k e (marked (get_or xs k e)) l refl;
  labels = set_unseen (λ (p : NodePlace). label_of p.label) xs k e (marked (get_or xs k e)) l refl;
  marks = λ d i h. mark_at xs k e d i l;
}
