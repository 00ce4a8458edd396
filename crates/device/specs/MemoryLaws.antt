-- The laws of a device in memory.
use Rattle.std.proofs.Common.{arith, ◌≡◌, ◌≤◌, ◌*◌, ◌%◌, ◌^◌, length}
use Rattle.std.proofs.lemmas.List.{length-take}
use Rattle.device.specs.declared.memory.MemDevice.{MemDevice}
use Rattle.device.specs.Memory.{memory_content}

-- its content is whole sectors
pub memory-whole : (device : MemDevice) → length (memory_content device) % 512 ≡ 0
memory-whole device = omega (arith, length-take (512 * device.len) device.current.items, device.current_size, device.len_greatest, device.greatest_room)

-- and at most 2^54 of them
pub memory-at_most : (device : MemDevice) → length (memory_content device) ≤ 2 ^ 63
memory-at_most device = omega (arith, length-take (512 * device.len) device.current.items, device.current_size, device.len_greatest, device.greatest_room, device.room)
