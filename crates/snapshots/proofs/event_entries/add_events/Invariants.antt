use Rattle.std.proofs.Common.{◌≡◌, ◌++◌, map, drop}
use Rattle.checkpoint.specs.EntryList.{listed}
use Rattle.records.specs.Entries.{event_entry}
use Rattle.snapshots.proofs.event_entries.add_events.Given as goal

-- what was added, and then what is left
abbrev pub invariant-loop-event : goal.invariant-loop-event
invariant-loop-event l =
    listed l.entries.items ++ map event_entry (map (λ event. event.now) (drop l.event-index l.events))
    ≡ listed l.fn.entries.items ++ map event_entry (map (λ event. event.now) l.events)
