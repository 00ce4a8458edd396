-- Why a file device could not be had.
use Rattle.std.specs.Prelude.{ℕ, List, codes}
use Rattle.std.specs.declared.io.ErrorKind.{ErrorKind}
use Rattle.std.specs.declared.io.ErrorKind.TheVariants.{AlreadyExists, NotFound, OutOfMemory}
use Rattle.device.specs.declared.file_device.CreateFault.{CreateFault}
use Rattle.device.specs.declared.file_device.CreateFault.TheVariants as create
use Rattle.device.specs.declared.file_device.OpenFault.{OpenFault}
use Rattle.device.specs.declared.file_device.OpenFault.TheVariants as open_

abbrev pub create_fault : ErrorKind → CreateFault
create_fault AlreadyExists = create.Exists
create_fault OutOfMemory = create.Memory
create_fault _ = create.Device

abbrev pub open_fault : ErrorKind → OpenFault
open_fault NotFound = open_.Missing
open_fault OutOfMemory = open_.Memory
open_fault _ = open_.Device

-- What these faults say.
abbrev pub create_text : CreateFault → List ℕ
create_text create.Exists = codes "file exists"
create_text create.Device = codes "device failed"
create_text create.Memory = codes "out of memory"

abbrev pub open_text : OpenFault → List ℕ
open_text open_.Missing = codes "no such file"
open_text open_.Device = codes "device failed"
open_text open_.Memory = codes "out of memory"
