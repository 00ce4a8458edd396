-- How the faults of the layers below are told.
use Rattle.checkpoint.specs.declared.scanning.ScanFault as scan
use Rattle.checkpoint.specs.declared.scanning.ScanFault.TheVariants as scan_fault
use Rattle.snapshots.specs.declared.fault.SnapshotFault as snapshot
use Rattle.snapshots.specs.declared.fault.SnapshotFault.TheVariants as snapshot_fault
use Rattle.paged.specs.declared.fault.PagedFault.{PagedFault}
use Rattle.paged.specs.declared.fault.PagedFault.TheVariants.{Device, Page, Entry, Plans, Memory}

-- pages that cannot be read
abbrev pub of_scan_fault : scan.ScanFault → PagedFault
of_scan_fault scan_fault.Device = Device
of_scan_fault scan_fault.Page = Page
of_scan_fault scan_fault.Entry = Entry
of_scan_fault scan_fault.Memory = Memory

-- entries of no view
abbrev pub of_snapshot_fault : snapshot.SnapshotFault → PagedFault
of_snapshot_fault snapshot_fault.Entry = Entry
of_snapshot_fault snapshot_fault.Plans = Plans
of_snapshot_fault snapshot_fault.Memory = Memory
