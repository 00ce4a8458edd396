use Rattle.std.proofs.Common.{◌≤◌, ◌-◌, length, drop}
use Rattle.httpmsg.specs.Cut.{Leads}
use Rattle.httpmsg.proofs.cut.cut_all.Given as goal

abbrev pub invariant-messages : goal.invariant-messages
invariant-messages l = (l.at ≤ length l.bytes) × Leads l.bytes l.messages.items (drop l.at l.bytes)

abbrev pub decreases-messages : goal.decreases-messages
decreases-messages l = length l.bytes - l.at
