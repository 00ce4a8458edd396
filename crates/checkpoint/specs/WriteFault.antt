-- What a fault of entries is as one of writing them.
use Rattle.checkpoint.specs.declared.filling.EntriesFault.{EntriesFault}
use Rattle.checkpoint.specs.declared.filling.EntriesFault.TheVariants as entries
use Rattle.checkpoint.specs.declared.writing.WriteFault.{WriteFault}
use Rattle.checkpoint.specs.declared.writing.WriteFault.TheVariants.{Device, Damaged, TooLong, Memory}

abbrev pub of_entries : EntriesFault → WriteFault
of_entries entries.Device = Device
of_entries entries.Damaged = Damaged
of_entries entries.TooLong = TooLong
of_entries entries.Memory = Memory
