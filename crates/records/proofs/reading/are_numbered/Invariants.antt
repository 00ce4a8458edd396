use Rattle.std.proofs.Common.{◌-◌, length, drop}
use Rattle.window.specs.Window.{AreNumberedFrom}
use Rattle.records.proofs.reading.are_numbered.Given as goal

-- all are numbered where the rest is, from the last revision so far
abbrev pub invariant-loop-event : goal.invariant-loop-event
invariant-loop-event l =
    (AreNumberedFrom (l.revision - length l.events) l.events → AreNumberedFrom l.last (drop l.event-index l.events))
    × (AreNumberedFrom l.last (drop l.event-index l.events) → AreNumberedFrom (l.revision - length l.events) l.events)
