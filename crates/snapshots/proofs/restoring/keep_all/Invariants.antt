use Rattle.std.proofs.Common.{◌≡◌}
use Rattle.std.specs.Vec.Iter.{into_iter_items}
use Rattle.snapshots.proofs.Events.{AreKept}
use Rattle.snapshots.proofs.restoring.keep_all.Given as goal

abbrev pub invariant-loop-event : goal.invariant-loop-event
invariant-loop-event l = record {
  rules_stay : l.core.rules ≡ l.fn.core.rules;
  changes_stay : l.core.changes ≡ l.fn.core.changes;
  keeps : AreKept l.fn.core l.core l.fn.events.items (into_iter_items l.event-iterator);
}
