-- Why no store was made, and what that says.
use Rattle.std.specs.Prelude.{ℕ, List, codes}
use Rattle.roots.specs.declared.new_store.StartFault as start
use Rattle.roots.specs.declared.new_store.StartFault.TheVariants as start_fault
use Rattle.durable.specs.declared.new_store.CreateFault.{CreateFault}
use Rattle.durable.specs.declared.new_store.CreateFault.TheVariants as create_fault

-- a store that could not be started
abbrev pub of_start_fault : start.StartFault → CreateFault
of_start_fault start_fault.Device = create_fault.Device
of_start_fault start_fault.NotEmpty = create_fault.NotEmpty

-- what the fault of a creation says
abbrev pub create_fault_text : CreateFault → List ℕ
create_fault_text create_fault.Device = codes "device failed"
create_fault_text create_fault.NotEmpty = codes "device is not empty"
