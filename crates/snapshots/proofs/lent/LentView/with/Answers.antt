use Rattle.std.proofs.Common.{arith, ◌≡◌, ◌+◌, ◌∙◌, ap, List, ◌++◌, length, map}
use Rattle.circular_buffer.specs.Buffer.{keep_last}
use Rattle.names.specs.Key.{Key}
use Rattle.histories.specs.declared.stored.Stored.{Stored}
use Rattle.histories.specs.View.{View}
use Rattle.decoded.specs.Decoded.{Decoded}
use Rattle.snapshots.specs.Added.{objects_from, events_from}
use Rattle.snapshots.proofs.Behind.{length-objects_from}
use Rattle.snapshots.proofs.lent.LentView.with.Goals as goal

pub returns : goal.returns
returns c = λ news added.
    let held : View Decoded = c.args.self in
    let own = ap (λ (v : View Decoded). v.objects) c.self.view_is in
    let given = c.deref.ensures.value ∙ added.objects in
    let objects : c.lend_objects.new.lent.items ≡ held.objects ++ objects_from held.revision news = c.in_ok-lend_objects.ensures ∙ (λ i. own i ++ given i) in
    let count : length c.args.added.now.objects.items ≡ length news =
    ap (λ (os : List (Key × Stored Decoded)). length os) added.objects ∙ length-objects_from held.revision news
    in
    let before : c.self.inside.revision ≡ held.revision = ap (λ (v : View Decoded). v.revision) c.self.view_is in
    let revision : c.self.inside.revision + c.len.result ≡ held.revision + length news = omega (arith, c.len.ensures) in
    let own_events = ap (λ (v : View Decoded). v.events) c.self.view_is in
    let given_events = c.deref-2.ensures.value ∙ added.events in
    let events : map (λ event. event.now) c.in_ok-last_of.field-0.items ≡ keep_last c.args.places (held.events ++ events_from held.revision news) =
    c.in_ok-last_of.ensures ∙ ap (keep_last c.args.places) (c.in_ok-lend_events.ensures ∙ (λ i. own_events i ++ given_events i))
    in
    λ i. record { objects = objects i; revision = revision i; events = events i }
