-- The rules in a row.
use Rattle.std.proofs.Common.{◌≡◌, ℕ, List, map, Some, None, Option, refl, ap, ◌∙◌}
use Rattle.std.specs.Option.{option_map}
use Rattle.covers.specs.Ranks.{at, Best}
use Rattle.covers.specs.Rows.{cost_entry}
use Rattle.covers.proofs.Shifts.{at_map}
use Rattle.row.specs.Views.{kept_of, row_in}
use Rattle.row.specs.declared.work.Work.{Work}
use Rattle.plain.specs.Rows.{rule_in}

-- the rule in a place
abbrev pub rule_entry : {C : Type 0} → Option (Work C) → Option ℕ
rule_entry o = option_map (λ e. e.0) (cost_entry (kept_of o))

pub at_rule : {C : Type 0} (ws : List (Option (Work C))) (n : ℕ) → rule_in (row_in ws) n ≡ rule_entry (at ws n)
at_rule {C} ws n =
    ap (option_map (λ (e : ℕ × C). e.0)) (at_map cost_entry refl (map kept_of ws) n ∙ ap cost_entry (at_map kept_of refl ws n))

entry_rule : {C : Type 0} (o : Option (Best C)) → option_map (λ e. e.0) (cost_entry o) ≡ option_map (λ x. x.2) o
entry_rule None = refl
entry_rule (Some x) = refl

-- the rules in a row of least costs are the choices
pub cost_rule : {C : Type 0} (xs : List (Option (Best C))) (n : ℕ) → rule_in (map cost_entry xs) n ≡ option_map (λ x. x.2) (at xs n)
cost_rule {C} xs n = ap (option_map (λ (e : ℕ × C). e.0)) (at_map cost_entry refl xs n) ∙ entry_rule (at xs n)
