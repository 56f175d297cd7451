use Rattle.std.proofs.Common.{◌≡◌, ◌-◌, None}
use Rattle.rows.specs.Stored.{keys_in}
use Rattle.entries.specs.Keys.{stands}
use Rattle.rows.proofs.Reading.{spin}
use Rattle.rows.proofs.walks.choice_back.Given as goal

abbrev pub invariant-loop-i : goal.invariant-loop-i
invariant-loop-i g l = spin (keys_in l.entries) (l.width - l._i) l.place (stands l.choice) ≡ spin (keys_in l.entries) (l.width - l.initial._i) l.initial.place None
