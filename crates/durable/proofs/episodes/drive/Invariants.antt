use Rattle.std.proofs.Common.{◌≡◌, ◌≤◌, length, take}
use Rattle.std.specs.Vec.{vec_capacity}
use Rattle.device.specs.Memory.{memory_content, memory_disk}
use Rattle.names.specs.declared.format.Rules.{Rules}
use Rattle.decoded.specs.Standing.{History}
use Rattle.durable.specs.Stands.{StandsFor}
use Rattle.durable.proofs.Driving.{LivesTo}
use Rattle.durable.proofs.episodes.drive.Given as goal

-- the episodes so far are lived, and the device stands for the history that they lead to
abbrev pub invariant-loop-episode : goal.invariant-loop-episode
invariant-loop-episode l =
    (length l.found.items ≡ l.episode-index)
    × (length l.episodes ≤ vec_capacity l.found)
    × (memory_disk.failures l.fn.device ≤ memory_disk.failures l.device)
    × ((rules : Rules) (h : History) → StandsFor rules (memory_content l.fn.device) h
    → (end : History) × LivesTo rules h (take l.episode-index l.episodes) l.found.items end × StandsFor rules (memory_content l.device) end)
