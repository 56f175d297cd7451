-- What one write to the work places comes to.
use Rattle.std.proofs.Common.{◌≡◌, ℕ, ◌<◌, true, cond, List, map, length, set, get_or, Some, None, Option, sym, refl, ap, ◌∙◌}
use Rattle.std.proofs.lemmas.List.{map-set, get_or_default}
use Rattle.cost.specs.Model.{Model}
use Rattle.covers.specs.Ranks.{at}
use Rattle.covers.proofs.Shifts.{at_map}
use Rattle.row.specs.declared.work.Work.{Work}
use Rattle.row.specs.Kept.{improves, keep}
use Rattle.row.specs.Views.{kept, kept_of}

module _ {C : Type 0} (m : Model C) where
  -- a write of what is better
  pub keep_takes : (ws : List (Option (Work C))) (n : ℕ) (w : Work C) (d : Option (Work C)) → n < length ws → d ≡ get_or ws n d → improves m (kept w) (kept_of d) ≡ true → map kept_of (set ws n (Some w)) ≡ keep m (map kept_of ws) n (kept w)
  keep_takes ws n w d h e t =
      let here : at (map kept_of ws) n ≡ kept_of d = at_map kept_of refl ws n ∙ ap kept_of (get_or_default ws n None d h ∙ sym e) in
      map-set kept_of ws n (Some w) ∙ sym (ap (λ z. cond z (set (map kept_of ws) n (Some (kept w))) (map kept_of ws)) (ap (improves m (kept w)) here ∙ t))
