-- The least of the costs, and taking it off each.
use Rattle.std.proofs.Common.{◌≡◌, List, [], ◌∷◌, ◌++◌, map, reverse, fold, Some, None, Option, refl, ap, ◌∙◌}
use mathlib.Core.List.{reverse-cons}
use Rattle.std.specs.Option.{option_map}
use Rattle.cost.specs.Model.{Model}
use Rattle.covers.specs.Ranks.{Best}
use Rattle.covers.specs.Rows.{lesser, least_in, entry, cost_entry}
use Rattle.row.specs.Kept.{lowered}
use Rattle.row.specs.Views.{kept_of}
use Rattle.row.specs.declared.work.Work.{Work}

module _ {C : Type 0} (m : Model C) where
  -- the lesser of the least so far and what a place costs
  abbrev pub lesser_of : Option C → Option (Work C) → Option C
  lesser_of least None = least
  lesser_of least (Some w) = Some (lesser m w.cost least)

  fold_end : (o : Option C) (ws : List (Option (Work C))) (w : Option (Work C)) → fold lesser_of o (ws ++ w ∷ []) ≡ lesser_of (fold lesser_of o ws) w
  fold_end o [] w = refl
  fold_end o (v ∷ ws) w = fold_end (lesser_of o v) ws w

  place_first : (ws : List (Option (Work C))) (w : Option (Work C)) → lesser_of (least_in m (map kept_of ws)) w ≡ least_in m (map kept_of (w ∷ ws))
  place_first ws None = refl
  place_first ws (Some w) = refl

  pub least_back : (ws : List (Option (Work C))) → fold lesser_of None (reverse ws) ≡ least_in m (map kept_of ws)
  least_back [] = refl
  least_back (w ∷ ws) = ap (fold lesser_of None) (reverse-cons w ws) ∙ fold_end None (reverse ws) w ∙ ap (λ o. lesser_of o w) (least_back ws) ∙ place_first ws w

  module _ (f : C) where
    -- a place with its cost above f
    abbrev pub lower_place : Option (Work C) → Option (Work C)
    lower_place o = option_map (λ (w : Work C). record { cost = m.diff w.cost f; chains = w.chains; rule = w.rule }) o

    place_lowered : (w : Option (Work C)) → kept_of (lower_place w) ≡ lowered m f (kept_of w)
    place_lowered None = refl
    place_lowered (Some w) = refl

    pub places_lowered : (ws : List (Option (Work C))) → map kept_of (map lower_place ws) ≡ map (lowered m f) (map kept_of ws)
    places_lowered [] = refl
    places_lowered (w ∷ ws) = λ i. place_lowered w i ∷ places_lowered ws i

    lowered_entry : (o : Option (Best C)) → cost_entry (lowered m f o) ≡ entry m f o
    lowered_entry None = refl
    lowered_entry (Some y) = refl

    pub lower_all : (xs : List (Option (Best C))) → map cost_entry (map (lowered m f) xs) ≡ map (entry m f) xs
    lower_all [] = refl
    lower_all (x ∷ xs) = λ i. lowered_entry x i ∷ lower_all xs i
