use Rattle.std.proofs.Common.{arith}
use Rattle.covers.proofs.StepLists.{steps_length, steps_few, steps_total}
use Rattle.covers.proofs.StepReading.{steps_determine}
use Rattle.covers.proofs.steps_are_right.Goals as goal

pub returns : goal.returns
returns g c G sealed t s k n h =
    let len = steps_length G t k n 0 h in
    let few = steps_few sealed t k n h in
    record { count = len; few = omega arith; adds_up = steps_total g.met.C.Cost.laws sealed t k n s h; determine = λ u o j f e. steps_determine G t u k j n o h f e }
