use Rattle.std.proofs.Common.{◌<◌, ℕ}
use Rattle.pages.specs.Page.{IsSlot}
use Rattle.pages.proofs.conditions.has_each_slot.Given as goal

abbrev pub invariant-loop-i : goal.invariant-loop-i
invariant-loop-i l = (k : ℕ) → k < l.i → IsSlot l.bytes k
