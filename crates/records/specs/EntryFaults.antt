-- Why an entry gives nothing, and what is told of it.
use Rattle.std.specs.Prelude.{ℕ, List, codes}
use Rattle.names.specs.declared.key.KeyFault as key
use Rattle.names.specs.declared.key.KeyFault.TheVariants as key_fault
use Rattle.records.specs.declared.fault.RecordFault as record_of
use Rattle.records.specs.declared.fault.RecordFault.TheVariants as record_fault
use Rattle.records.specs.declared.entry_fault.EntryFault.{EntryFault}
use Rattle.records.specs.declared.entry_fault.EntryFault.TheVariants.{Damaged, Memory}

-- Bytes of no key are damage.
abbrev pub of_key_fault : key.KeyFault → EntryFault
of_key_fault key_fault.NoKey = Damaged
of_key_fault key_fault.Memory = Memory

-- So is a text of no document.
abbrev pub of_record_fault : record_of.RecordFault → EntryFault
of_record_fault record_fault.Damaged = Damaged
of_record_fault record_fault.Memory = Memory

abbrev pub fault_text : EntryFault → List ℕ
fault_text Damaged = codes "damaged entry"
fault_text Memory = codes "out of memory"
