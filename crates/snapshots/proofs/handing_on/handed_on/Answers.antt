use Rattle.std.proofs.Common.{◌≡◌, ◌∙◌, ◌++◌, ap, map, append_assoc, not}
use Rattle.std.specs.List.{filter}
use Rattle.std.specs.FinMap.{is_sorted}
use Rattle.names.specs.Key.{key_cmp}
use Rattle.objects.specs.Merged.{merged}
use Rattle.checkpoint.specs.EntryList.{listed}
use Rattle.chunks.specs.Chunks.{cut}
use Rattle.histories.specs.View.{View}
use Rattle.records.specs.Entries.{stored_entry, plans_among, event_entry}
use Rattle.decoded.specs.Decoded.{Decoded}
use Rattle.snapshots.specs.Keeping.{held_plans}
use Rattle.snapshots.proofs.HandedOn.{plans_apart}
use Rattle.snapshots.proofs.handing_on.handed_on.Goals as goal

pub returns : goal.returns
returns g c base held none cells shows apart =
    let lies = g.B.Below.lies c.args.below.now in
    let os = held.objects in
    let first : c.deref.result.now ≡ filter (λ o. not (lies o.0.resource)) os = c.deref.ensures.value ∙ ap (λ (v : View Decoded). v.objects) (c.apart.view_is ∙ apart) in
    let second : map (λ event. event.now) c.deref-2.result.now ≡ held.events =
    ap (map (λ event. event.now)) c.deref-2.ensures.value ∙ ap (λ (v : View Decoded). v.events) (c.apart.view_is ∙ apart)
    in
    let objects : listed c.in_ok-pairs.pairs.items ≡ map stored_entry os =
    c.in_ok-pairs.ensures base cells shows.objects.ascends (ap (is_sorted key_cmp) c.changes.ensures.value ∙ c.changes.ensures.ascending)
    ∙ ap (map stored_entry) (ap (λ cs. merged cs base) c.changes.ensures.value ∙ shows.objects.are)
    in
    let plans : listed c.add_all_plans.new.entries.items ≡ map stored_entry os ++ plans_among held_plans os =
    c.in_ok-add_all_plans.ensures ∙ (λ i. objects i ++ plans_among held_plans (first i)) ∙ ap (λ es. map stored_entry os ++ es) (plans_apart lies none os)
    in
    let entries : listed c.add_events.new.entries.items ≡ (map stored_entry os ++ plans_among held_plans os) ++ map event_entry held.events =
    c.in_ok-add_events.ensures ∙ (λ i. plans i ++ map event_entry (second i))
    in
    c.new.ensures ∙ c.in_ok-all_cut.ensures ∙ ap (cut c.args.format) (entries ∙ append_assoc (map stored_entry os) (plans_among held_plans os) (map event_entry held.events))
