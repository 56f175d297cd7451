-- Where reading a machine file finds its first fault.
use Rattle.std.specs.Prelude.{ℕ, Some, None, Ok, Err, Option, Result}
use Rattle.fault.specs.Faults.{refusal_number}
use Rattle.fault.specs.declared.MachineFault.{MachineFault}
use Rattle.machine.specs.Files.{MachineOf}

-- the line, the field and the number of a fault; none where there is a machine
abbrev pub spot_in : Result MachineOf MachineFault → Option (ℕ × ℕ × ℕ)
spot_in (Ok machine) = None
spot_in (Err fault) = Some (fault.line, fault.field, refusal_number fault.refusal)
