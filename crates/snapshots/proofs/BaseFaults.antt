-- What damage is told of, and what is told as out of memory.
use Rattle.std.proofs.Common.{◌≡◌, ◌⊎◌, inl, inr, refl, Result, Ok, Err}
use Rattle.std.specs.Prelude.{OnOk}
use Rattle.objects.specs.declared.fault.LookupFault.TheVariants as LookupFault
use Rattle.shelf.specs.declared.fault.ShelfFault.{ShelfFault}
use Rattle.shelf.specs.declared.fault.ShelfFault.TheVariants.{Device, Page, Entry, Memory}
use Rattle.snapshots.specs.declared.object_cache_fault.ObjectCacheFault.{ObjectCacheFault as Fault}
use Rattle.snapshots.specs.declared.object_cache_fault.ObjectCacheFault.TheVariants as ObjectCacheFault
use Rattle.snapshots.specs.BaseFaults.{of_cache_fault}
use Rattle.snapshots.specs.ObjectCacheFaults.{of_shelf_fault}

pub damage_is : (fault : ShelfFault) → of_shelf_fault fault ≡ ObjectCacheFault.Damaged → (fault ≡ Page) ⊎ (fault ≡ Entry)
damage_is Device is = cc
damage_is Page is = inl refl
damage_is Entry is = inr refl
damage_is Memory is = cc

pub memory_is : (fault : ShelfFault) → of_shelf_fault fault ≡ ObjectCacheFault.Memory → fault ≡ Memory
memory_is Device is = cc
memory_is Page is = cc
memory_is Entry is = cc
memory_is Memory is = refl

pub memory_below : (fault : Fault) → of_cache_fault fault ≡ LookupFault.Memory → fault ≡ ObjectCacheFault.Memory
memory_below ObjectCacheFault.Device is = cc
memory_below ObjectCacheFault.Damaged is = cc
memory_below ObjectCacheFault.Memory is = refl

-- what holds whatever is answered holds where Ok is
pub on_any : {T E P : Type 0} (r : Result T E) → P → OnOk r P
on_any (Ok x) holds = holds
on_any (Err e) holds = tt
