use Rattle.std.proofs.Common.{◌≡◌, ◌<◌, ◌+◌, ℕ}
use Rattle.std.specs.declared.cmp.Ordering.TheVariants.{Less}
use Rattle.pages.specs.Page.{key_at, bytes_cmp}
use Rattle.pages.proofs.conditions.has_order.Given as goal

abbrev pub invariant-loop-i : goal.invariant-loop-i
invariant-loop-i l = (k : ℕ) → k < l.i → bytes_cmp (key_at k l.bytes) (key_at (k + 1) l.bytes) ≡ Less
