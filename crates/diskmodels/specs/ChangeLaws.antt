-- The bound of a device in memory.
use Rattle.std.proofs.Common.{arith, ◌≤◌, ◌^◌, ℕ, List, length}

pub at_most : (bytes : List ℕ) → length bytes ≤ 2 ^ 62 → length bytes ≤ 2 ^ 63
at_most bytes le = omega (arith, le)
