-- Pages on a device in memory.
use Rattle.std.specs.Prelude.{◌≤◌, ◌*◌, length}
use Rattle.device.specs.declared.memory.MemDevice.{MemDevice}
use Rattle.device.specs.Memory.{memory_content}
use Rattle.roots.specs.declared.root.Root.{Root}
use Rattle.roots.specs.Root.{log_sector}

-- The pages of the root lie inside the device.
abbrev pub LiesInside : Root → MemDevice → Type 0
LiesInside root device = 512 * log_sector root ≤ length (memory_content device)
