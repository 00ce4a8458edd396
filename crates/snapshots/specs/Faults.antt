-- How the faults of the layers below are told.
use Rattle.records.specs.declared.entry_fault.EntryFault as entry
use Rattle.records.specs.declared.entry_fault.EntryFault.TheVariants as entry_fault
use Rattle.plancode.specs.declared.list_reading.ReadPlansFault as plans_of
use Rattle.plancode.specs.declared.list_reading.ReadPlansFault.TheVariants as plans_fault
use Rattle.snapshots.specs.declared.fault.SnapshotFault.{SnapshotFault}
use Rattle.snapshots.specs.declared.fault.SnapshotFault.TheVariants.{Entry, Plans, Memory}

-- Entries of no view are damage.
abbrev pub of_entry_fault : entry.EntryFault → SnapshotFault
of_entry_fault entry_fault.Damaged = Entry
of_entry_fault entry_fault.Memory = Memory

-- So are bytes of no plans.
abbrev pub of_plans_fault : plans_of.ReadPlansFault → SnapshotFault
of_plans_fault plans_fault.Damaged = Plans
of_plans_fault plans_fault.Memory = Memory
