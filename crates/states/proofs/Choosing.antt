-- The rule chosen, read off a row; and states without any node.
use Rattle.std.proofs.Common.{◌≡◌, ℕ, ◌≤◌, [], map, length, Some, None, Option, sym, refl, ap, ◌∙◌, subst}
use Rattle.std.specs.Option.{option_map}
use Rattle.cost.specs.Model.{Model}
use Rattle.grammar.specs.Lists.{Lists, Sealed}
use Rattle.covers.specs.Trees.{Tree, count}
use Rattle.covers.specs.Ranks.{Best, at, best, choice}
use Rattle.covers.specs.Rows.{entry, least_of_all, row}
use Rattle.covers.proofs.Relaxing.{none_some}
use Rattle.covers.proofs.Shifts.{at_map}
use Rattle.table.specs.Tables.{keys_of, room_of}
use Rattle.rows.specs.Meaning.{rows_of, rows_room}
use Rattle.states.specs.declared.states.States.{States}
use Rattle.states.specs.Keys.{lead_of}
use Rattle.states.specs.Leading.{Leads}
use Rattle.states.specs.Meaning.{Knows}

entry_rule : {C : Type 0} (m : Model C) (f : C) (o : Option (Best C)) → option_map (λ e. e.0) (entry m f o) ≡ option_map (λ b. b.2) o
entry_rule m f None = refl
entry_rule m f (Some b) = refl

pub row_rule : {C : Type 0} (m : Model C) (G : Lists C) (t : Tree) (n : ℕ) → option_map (λ e. e.0) (at (row m G t) n) ≡ choice m G t n
row_rule {C} m G t n =
    ap (option_map (λ (e : ℕ × C). e.0)) (at_map (entry m (least_of_all m (best m G t))) refl (best m G t) n) ∙ entry_rule m (least_of_all m (best m G t)) (at (best m G t) n)

pub knows_nothing : {C : Type 0} {cost eq keyed : _} (m : Model C) (G : Lists C) (v : States C cost eq keyed) → Sealed m G → keys_of v.transitions ≡ [] → rows_of v.rows ≡ [] → v.rows.width ≡ count G → length v.work.now ≡ count G → v.most_keys ≤ room_of v.transitions → v.most_rows ≤ rows_room v.rows → Knows m G v []
knows_nothing m G v s a b c d e f = record {
  sealed = s;
  accepts = λ i t h. absurd (none_some t h);
  small = λ t h. absurd (none_some t h.1);
  leads = subst (λ ks. Leads m G [] (map lead_of ks)) (sym a) (record { keyed = refl; labelled = λ i k h. absurd (none_some k h) });
  rows = b;
  wide = c;
  work = d;
  key_room = e;
  row_room = f;
}
