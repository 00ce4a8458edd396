use Rattle.std.proofs.Common.{◌≡◌, ◌++◌, map}
use Rattle.snapshots.proofs.lent.lent_events.Given as goal

-- what is listed, and then what is left
abbrev pub invariant-loop-event : goal.invariant-loop-event
invariant-loop-event l = map (λ event. event.now) l.lent.items ++ l.event-iterator ≡ l.fn.events
