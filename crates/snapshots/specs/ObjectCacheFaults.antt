-- Why pages give no objects, of what lies below.
use Rattle.shelf.specs.declared.fault.ShelfFault as shelf
use Rattle.shelf.specs.declared.fault.ShelfFault.TheVariants as shelf_fault
use Rattle.records.specs.declared.entry_fault.EntryFault as entry
use Rattle.records.specs.declared.entry_fault.EntryFault.TheVariants as entry_fault
use Rattle.snapshots.specs.declared.object_cache_fault.ObjectCacheFault.{ObjectCacheFault}
use Rattle.snapshots.specs.declared.object_cache_fault.ObjectCacheFault.TheVariants.{Device, Damaged, Memory}

-- An entry that is refused is damage as a page is.
abbrev pub of_shelf_fault : shelf.ShelfFault → ObjectCacheFault
of_shelf_fault shelf_fault.Device = Device
of_shelf_fault shelf_fault.Page = Damaged
of_shelf_fault shelf_fault.Entry = Damaged
of_shelf_fault shelf_fault.Memory = Memory

abbrev pub of_entry_fault : entry.EntryFault → ObjectCacheFault
of_entry_fault entry_fault.Damaged = Damaged
of_entry_fault entry_fault.Memory = Memory
