use Rattle.device.specs.Memory.{memory}
use Rattle.device.proofs.Picking.{IsPicked}
use Rattle.device.proofs.memory.MemDevice.take_picks.Given as goal

abbrev pub invariant-loop-sector : goal.invariant-loop-sector
invariant-loop-sector l = IsPicked (memory l.initial.self) (memory l.self) l.picks l.used l.sector
