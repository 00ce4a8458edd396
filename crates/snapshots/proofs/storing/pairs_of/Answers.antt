use Rattle.std.proofs.Common.{◌≡◌, ◌∙◌, ◌++◌, ap, map, append_assoc}
use Rattle.checkpoint.specs.EntryList.{listed}
use Rattle.histories.specs.View.{View}
use Rattle.records.specs.Entries.{stored_entry, plans_among, event_entry}
use Rattle.decoded.specs.Decoded.{Decoded}
use Rattle.snapshots.specs.Keeping.{held_plans}
use Rattle.snapshots.proofs.storing.pairs_of.Goals as goal

pub returns : goal.returns
returns c =
    let view : View Decoded = c.args.view.now in
    let os = view.objects in
    let lent : c.view.inside.objects.items ≡ os = ap (λ (v : View Decoded). v.objects) c.view.view_is in
    let first : c.deref.result.now ≡ os = c.deref.ensures.value ∙ lent in
    let second : c.deref-2.result.now ≡ os = c.deref-2.ensures.value ∙ lent in
    let third : map (λ event. event.now) c.deref-3.result.now ≡ view.events =
    ap (map (λ event. event.now)) c.deref-3.ensures.value ∙ ap (λ (v : View Decoded). v.events) c.view.view_is
    in
    let objects : listed c.add_objects.new.entries.items ≡ map stored_entry os =
    c.in_ok-add_objects.ensures ∙ (λ i. listed (c.new-pairs.ensures.items i) ++ map stored_entry (first i))
    in
    let plans : listed c.add_all_plans.new.entries.items ≡ map stored_entry os ++ plans_among held_plans os =
    c.in_ok-add_all_plans.ensures ∙ (λ i. objects i ++ plans_among held_plans (second i))
    in
    let entries : listed c.add_events.new.entries.items ≡ (map stored_entry os ++ plans_among held_plans os) ++ map event_entry view.events =
    c.in_ok-add_events.ensures ∙ (λ i. plans i ++ map event_entry (third i))
    in
    entries ∙ append_assoc (map stored_entry os) (plans_among held_plans os) (map event_entry view.events)
