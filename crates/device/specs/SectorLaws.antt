-- The laws of a file of bytes as a device.
use Rattle.std.proofs.Common.{arith, ◌≡◌, ◌≤◌, ◌*◌, ◌/◌, ◌%◌, ◌^◌, ℕ, List, length}
use Rattle.std.proofs.lemmas.List.{length-take}
use Rattle.device.specs.Sectors.{whole}

pub sectors-whole : (bytes : List ℕ) → length (whole bytes) % 512 ≡ 0
sectors-whole bytes = omega (arith, length-take (512 * (length bytes / 512)) bytes)

pub sectors-at_most : (bytes : List ℕ) → length bytes ≤ 2 ^ 63 → length (whole bytes) ≤ 2 ^ 63
sectors-at_most bytes at_most = omega (arith, at_most, length-take (512 * (length bytes / 512)) bytes)
