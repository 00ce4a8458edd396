use Rattle.std.proofs.Common.{◌<◌, ◌≤◌, ◌+◌, ℕ}
use Rattle.pages.specs.Page.{size, key_size}
use Rattle.pages.proofs.conditions.has_cells.Given as goal

abbrev pub invariant-loop-i : goal.invariant-loop-i
invariant-loop-i l = (k : ℕ) → k < l.i → 2 + key_size k l.bytes ≤ size k l.bytes
