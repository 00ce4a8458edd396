use Rattle.std.proofs.Common.{rules, arith, ◌≡◌, ◌∙◌, sym, ap, subst, true, ◌⊎◌, inl, inr, ⊎_elim, List}
use Rattle.std.specs.FinMap.{is_sorted}
use Rattle.std.specs.Prelude.{IsErrOf}
use Rattle.names.specs.Key.{key_cmp}
use Rattle.objects.specs.Changes.{Changes}
use Rattle.objects.specs.Merged.{merged}
use Rattle.histories.specs.declared.stored.Stored.{Stored}
use Rattle.holdings.specs.Holdings.{Shows}
use Rattle.records.specs.declared.entry_fault.EntryFault.{EntryFault}
use Rattle.snapshots.specs.KeptEntries.{chosen_of}
use Rattle.decoded.specs.Decoded.{Decoded}
use Rattle.snapshots.specs.declared.fault.SnapshotFault.TheVariants as SnapshotFault
use Rattle.snapshots.specs.LyingBelow.{puts_of}
use Rattle.snapshots.specs.Faults.{of_entry_fault}
use Rattle.snapshots.specs.Keeping.{held_plans, HasLastEvents}
use Rattle.snapshots.specs.Restoring.{IsDamaged, view_in_bytes, AreHeldOf, without_events, with_events}
use Rattle.snapshots.proofs.Chosen.{ShowsPart, shows_all, knows_chosen}
use Rattle.snapshots.proofs.Held.{Core, Object, Kept}
use Rattle.snapshots.proofs.InBytes.{entries_in_bytes}
use Rattle.snapshots.proofs.MadeAgain.{Held, KeptView, entry_damaged, made_again, can_keep, has_room, shown_again, held_again, entries_again}
use Rattle.snapshots.proofs.Parts.{part_held, wide, held_holdable, held_last, objects_held}
use Rattle.snapshots.proofs.restoring.restored.Goals as goal

pub returns-in_err-view-clause-damaged : goal.returns-in_err-view-clause-damaged
returns-in_err-view-clause-damaged g c is_damaged held chosen is all same revision counted =
    let part : Held = chosen_of chosen held in
    let e : EntryFault = c.in_err-view.field-0.0 in
    let told : (of_entry_fault e ≡ SnapshotFault.Entry) ⊎ (of_entry_fault e ≡ SnapshotFault.Plans) =
    ⊎_elim (λ x. inl (search rules)) (λ x. inr (search rules)) is_damaged
    in
    let damaged : e ≡ EntryFault.Damaged = entry_damaged e told in
    let bad : IsErrOf c.read_view.result EntryFault.Damaged = search rules in
    c.read_view.ensures.damaged bad (wide part) (view_in_bytes held_plans part) (held_holdable c.args.rules part (part_held c.args.rules chosen held is)) revision
    (entries_in_bytes held_plans part ∙ sym same)

pub returns-in_err-core-clause-damaged : goal.returns-in_err-core-clause-damaged
returns-in_err-core-clause-damaged g c is_damaged held chosen is all same revision counted =
    let told : IsDamaged c.core_without_events.result = search rules in
    let part : Held = chosen_of chosen held in
    let may = part_held c.args.rules chosen held is in
    let holdable = held_holdable c.args.rules part may in
    let found = c.in_ok-view.ensures.found (wide part) (view_in_bytes held_plans part) holdable (entries_in_bytes held_plans part ∙ sym same) revision in
    c.core_without_events.ensures.damaged told (subst (λ (u : KeptView). is_sorted key_cmp u.objects ≡ true) (sym found) holdable.ascends)
    (subst (λ (u : KeptView). HasLastEvents c.args.rules u) (sym found) (held_last c.args.rules part may))

pub keep_all-requires : goal.keep_all-requires
keep_all-requires g c =
    has_room c.args.rules c.in_ok-core.core c.in_ok-view.view c.view.inside.events.items c.in_ok-core.ensures.revision c.in_ok-core.ensures.last
    (omega (arith, c.in_ok-view.ensures.revision)) (ap (λ (u : KeptView). u.events) c.view.view_is)

pub restore_all-requires-clause-none : goal.restore_all-requires-clause-none
restore_all-requires-clause-none g c = ap (λ (changes : Changes (Stored Decoded)). changes.made) c.keep_all.ensures.changes ∙ c.in_ok-core.ensures.none

pub restore_all-requires-clause-ascend : goal.restore_all-requires-clause-ascend
restore_all-requires-clause-ascend g c =
    subst (λ (ks : List Kept). is_sorted key_cmp ks ≡ true) (ap (λ (u : KeptView). u.objects) (sym c.view.view_is) ∙ sym c.deref.ensures.value)
    c.in_ok-core.ensures.ascends

pub returns-in_err-restore_all-clause-damaged : goal.returns-in_err-restore_all-clause-damaged
returns-in_err-restore_all-clause-damaged g c is_damaged held chosen is all same revision counted =
    let told : IsDamaged c.restore_all.result = search rules in
    let part : Held = chosen_of chosen held in
    let may = part_held c.args.rules chosen held is in
    let found =
    c.in_ok-view.ensures.found (wide part) (view_in_bytes held_plans part) (held_holdable c.args.rules part may) (entries_in_bytes held_plans part ∙ sym same) revision
    in
    let objects : (view_in_bytes held_plans part).objects ≡ c.deref.result.now =
    ap (λ (u : KeptView). u.objects) (sym found ∙ sym c.view.view_is) ∙ sym c.deref.ensures.value
    in
    c.restore_all.ensures.damaged told part.objects (subst (λ (ks : List Kept). AreHeldOf part.objects ks) objects (objects_held c.args.rules part may))

pub returns : goal.returns
returns g c =
    let lies = g.B.Below.lies c.args.below.now in
    let kept : KeptView = c.in_ok-view.view in
    let core : Core = c.restore_all.new.core in
    let made = c.in_ok-restore_all.ensures.held in
    let told : c.view.inside.events.items ≡ kept.events = ap (λ (u : KeptView). u.events) c.view.view_is in
    let are : AreHeldOf made.objects kept.objects =
    subst (λ (ks : List Kept). AreHeldOf made.objects ks) (c.deref.ensures.value ∙ ap (λ (u : KeptView). u.objects) c.view.view_is) made.held
    in
    let part : ShowsPart lies core kept made.objects c.args.count = record {
      are = are;
      made = made.made;
      shows = λ base may.
          let left : List Object = merged (puts_of made.objects) base in
          let first : Shows c.in_ok-core.core base (without_events base kept) = c.in_ok-core.ensures.shows base may.ascend may.counted in
          let told_there : Shows c.keep_all.new.core base (with_events (without_events base kept) c.view.inside.events.items) =
          c.keep_all.ensures.shows base (without_events base kept)
          (can_keep c.args.rules c.in_ok-core.core base kept c.view.inside.events.items c.in_ok-core.ensures.rules first c.in_ok-view.ensures.storable
          c.in_ok-core.ensures.last told)
          in
          subst (λ (v : Held). Shows core base v) (shown_again c.args.rules kept base left c.view.inside.events.items c.in_ok-core.ensures.last told)
          (made.shows base (with_events (without_events base kept) c.view.inside.events.items) told_there may.there);
    }
    in
    record {
      rules = c.restore_all.ensures.rules ∙ c.keep_all.ensures.rules ∙ c.in_ok-core.ensures.rules;
      shows = λ held chosen is all same revision counted.
          let w : Held = chosen_of chosen held in
          let may = part_held c.args.rules chosen held is in
          let found : kept ≡ view_in_bytes held_plans w =
          c.in_ok-view.ensures.found (wide w) (view_in_bytes held_plans w) (held_holdable c.args.rules w may) (entries_in_bytes held_plans w ∙ sym same) revision
          in (
            shows_all c.args.rules lies core kept made.objects c.args.count part held chosen is found all counted,
            knows_chosen c.args.rules lies core kept made.objects c.args.count part held chosen is found,
          );
      damaged = search rules;
      restored = record {
        kept = made_again kept made.objects;
        held = held_again c.args.rules kept made.objects are c.in_ok-view.ensures.storable c.in_ok-core.ensures.last;
        entries = entries_again kept made.objects are ∙ c.in_ok-view.ensures.entries;
        revision = c.in_ok-view.ensures.revision;
        shows = part.shows;
      };
    }
