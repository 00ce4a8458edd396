-- What a log's faults say.
use Rattle.std.specs.Prelude.{ℕ, List, codes}
use Rattle.gatelog.specs.declared.fault.LogFault.{LogFault}
use Rattle.gatelog.specs.declared.fault.LogFault.TheVariants.{Device, Damaged, TooLong, Memory}

abbrev pub fault_text : LogFault → List ℕ
fault_text Device = codes "device failed"
fault_text Damaged = codes "damaged log"
fault_text TooLong = codes "payload too long"
fault_text Memory = codes "out of memory"
