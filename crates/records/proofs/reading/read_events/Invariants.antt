use Rattle.std.proofs.Common.{◌≡◌, map, take}
use Rattle.std.specs.List.{AllByRecursion}
use Rattle.records.specs.Entries.{event_entry}
use Rattle.records.specs.Holding.{IsStorableEvent}
use Rattle.records.proofs.reading.read_events.Given as goal

-- the events so far are those of the entries so far
abbrev pub invariant-loop-entry : goal.invariant-loop-entry
invariant-loop-entry l = (map event_entry l.events.items ≡ take l.entry-index l.entries) × AllByRecursion IsStorableEvent l.events.items
