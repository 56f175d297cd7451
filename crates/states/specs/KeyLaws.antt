-- Transitions are the same where their keys are equal.
use Rattle.std.specs.Prelude.{refl}
use Rattle.std.proofs.Common.{sym, ap, ◌∙◌}
use Rattle.covers.proofs.Labels.{same_key_tells}
use Rattle.table.specs.Keys.{KeyLaws}
use Rattle.states.specs.Keys.{transition_key, key_of, key_scatter}

pub transition_laws : KeyLaws transition_key
transition_laws = record {
  reflexive = λ x. (same_key_tells (key_of x.key) (key_of x.key)).1 refl;
  symmetric = λ x y h. (same_key_tells (key_of y.key) (key_of x.key)).1 (sym ((same_key_tells (key_of x.key) (key_of y.key)).0 h));
  transitive = λ x y z h k. (same_key_tells (key_of x.key) (key_of z.key)).1 ((same_key_tells (key_of x.key) (key_of y.key)).0 h ∙ (same_key_tells (key_of y.key) (key_of z.key)).0 k);
  alike = λ x y h. ap key_scatter ((same_key_tells (key_of x.key) (key_of y.key)).0 h);
}
