use Rattle.std.proofs.Common.{◌∙◌}
use Rattle.std.specs.Vec.Iter.{into_iter_items}
use Rattle.snapshots.proofs.Events.{next_revision, one_more}
use Rattle.snapshots.proofs.restoring.keep_all.Goals as goal

pub keep-requires : goal.keep-requires
keep-requires c =
    next_revision c.args.core.now c.loop-event.core c.args.events.items (into_iter_items c.loop-event.event-iterator) c.in-Some.event
    (into_iter_items c.next.new.self) c.loop-event.invariant.keeps c.in-Some.ensures.steps.0 c.requires

pub loop-event-preserved : goal.loop-event-preserved
loop-event-preserved c = record {
  rules_stay = c.keep.ensures.rules ∙ c.loop-event.invariant.rules_stay;
  changes_stay = c.keep.ensures.changes ∙ c.loop-event.invariant.changes_stay;
  keeps =
      one_more c.args.core.now c.loop-event.core c.keep.new.self c.args.events.items (into_iter_items c.loop-event.event-iterator) c.in-Some.event
      (into_iter_items c.next.new.self) c.loop-event.invariant.keeps c.in-Some.ensures.steps.0 c.loop-event.invariant.rules_stay c.keep.ensures.revision
      c.keep.ensures.shows;
}
