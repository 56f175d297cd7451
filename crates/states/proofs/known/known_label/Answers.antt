use Rattle.std.proofs.Common.{rules, ◌≡◌, ap, ◌∙◌}
use Rattle.std.specs.Option.{option_map}
use Rattle.nodes.specs.Views.{label_of}
use Rattle.table.specs.Tables.{keys_of}
use Rattle.states.specs.declared.transition.Transition.{Transition}
use Rattle.states.proofs.Finding.{found_none, found_some}
use Rattle.states.proofs.known.known_label.Goals as goal

pub returns-in_err-place : goal.returns-in_err-place
returns-in_err-place c =
    ap label_of c.from_residual.ensures ∙ found_none (keys_of c.args.transitions.now) record { key = c.args.key; label = record { 0 = 0 } } c.in_err-place.ensures

pub returns : goal.returns
returns c =
    let label : label_of c.map.result ≡ option_map (λ (t : Transition). t.label.0) (option_map (λ k. k.now) c.key_at.result) = search rules in
    label ∙ ap (option_map (λ (t : Transition). t.label.0)) c.key_at.ensures
    ∙ found_some (keys_of c.args.transitions.now) record { key = c.args.key; label = record { 0 = 0 } } c.in_ok-place.place c.in_ok-place.ensures
