-- The numbers of the refusals of a labeller.
use Rattle.std.specs.Prelude.{ℕ}
use Rattle.nodes.specs.Checks.{refusal_number}
use Rattle.label.specs.declared.refusals.BirthRefusal.{BirthRefusal}
use Rattle.label.specs.declared.refusals.BirthRefusal.TheVariants.{Capacity, Memory}
use Rattle.label.specs.declared.refusals.NoRoom.{NoRoom}
use Rattle.label.specs.declared.refusals.NoRoom.TheVariants.{Keys, Rows}
use Rattle.label.specs.declared.refusals.AddRefusal.{AddRefusal}
use Rattle.label.specs.declared.refusals.AddRefusal.TheVariants.{Node, Room}

abbrev pub birth_number : BirthRefusal → ℕ
birth_number Capacity = 20
birth_number Memory = 21

abbrev pub room_number : NoRoom → ℕ
room_number Keys = 28
room_number Rows = 29

abbrev pub add_number : AddRefusal → ℕ
add_number (Node e) = refusal_number e
add_number (Room e) = room_number e
