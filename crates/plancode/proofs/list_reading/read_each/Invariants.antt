use Rattle.std.proofs.Common.{length}
use Rattle.plancode.proofs.Progress.{IsRead}
use Rattle.plancode.proofs.list_reading.read_each.Given as goal

-- what was read, and what is left
abbrev pub invariant-each : goal.invariant-each
invariant-each l = IsRead l.fn.places l.fn.bytes l.left l.rest l.plans.items

abbrev pub decreases-each : goal.decreases-each
decreases-each l = length l.left
