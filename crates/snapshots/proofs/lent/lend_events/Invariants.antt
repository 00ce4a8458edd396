use Rattle.std.proofs.Common.{◌≡◌, ◌++◌, map, drop}
use Rattle.snapshots.proofs.lent.lend_events.Given as goal

-- what was lent, and then what is left
abbrev pub invariant-loop-event : goal.invariant-loop-event
invariant-loop-event l =
    map (λ event. event.now) l.lent.items ++ drop l.event-index l.events ≡ map (λ event. event.now) l.fn.lent.items ++ l.events
