-- What the faults of serving say.
use Rattle.std.specs.Prelude.{ℕ, List, ◌++◌, codes}
use Rattle.durable.specs.Faults.{damage_text}
use Rattle.api.specs.declared.fault.ServeFault.{ServeFault}
use Rattle.api.specs.declared.fault.ServeFault.TheVariants.{Read, Write, Device, Memory, Damaged, Failed}

abbrev pub fault_text : ServeFault → List ℕ
fault_text Read = codes "input or output failed"
fault_text Write = codes "input or output failed"
fault_text Device = codes "device failed"
fault_text Memory = codes "out of memory"
fault_text (Damaged damage) = codes "damaged: " ++ damage_text damage
fault_text Failed = codes "device failed before"
