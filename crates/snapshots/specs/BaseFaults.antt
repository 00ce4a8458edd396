-- What a fault of the pages is to what is held over them.
use Rattle.snapshots.specs.declared.object_cache_fault.ObjectCacheFault.{ObjectCacheFault}
use Rattle.snapshots.specs.declared.object_cache_fault.ObjectCacheFault.TheVariants as below
use Rattle.objects.specs.declared.fault.Part.TheVariants.{Entry}
use Rattle.objects.specs.declared.fault.LookupFault.{LookupFault}
use Rattle.objects.specs.declared.fault.LookupFault.TheVariants.{Device, Damaged, Memory}

abbrev pub of_cache_fault : ObjectCacheFault → LookupFault
of_cache_fault below.Device = Device
of_cache_fault below.Damaged = Damaged Entry
of_cache_fault below.Memory = Memory
