use Rattle.std.proofs.Common.{rules, arith, ◌≡◌, ◌∙◌, sym, ap, subst, ◌-◌, true, ℕ, List, ◌++◌, map, take, drop, length}
use Rattle.std.specs.Prelude.{IsErrOf}
use Rattle.std.proofs.lemmas.List.{take_rest}
use Rattle.window.specs.declared.event.Event.{Event}
use Rattle.window.specs.Window.{AreNumberedFrom}
use Rattle.documents.specs.Document.{Document}
use Rattle.pages.specs.Page.{Entry}
use Rattle.records.specs.declared.entry_fault.EntryFault.TheVariants as EntryFault
use Rattle.records.specs.Entries.{event_entry, plans_among}
use Rattle.records.specs.EntryLaws.{bytes_beside}
use Rattle.records.specs.Reading.{entry_read}
use Rattle.records.proofs.FoundAgain.{plans_otherwise, all_stored, all_events, all_followed, one_events, view_split}
use Rattle.records.proofs.reading.read_view.Goals as goal

pub returns-in_err-read-clause-damaged : goal.returns-in_err-read-clause-damaged
returns-in_err-read-clause-damaged c is_damaged rules_of v holds revision same =
    let bad : IsErrOf c.read_objects.result EntryFault.Damaged = search rules in
    c.read_objects.ensures.damaged bad v.objects (plans_among bytes_beside v.objects ++ map event_entry v.events) (all_stored rules_of v.objects holds.objects)
    (plans_otherwise v.objects v.events) same

pub returns-in_err-objects-clause-damaged : goal.returns-in_err-objects-clause-damaged
returns-in_err-objects-clause-damaged c is_damaged rules_of v holds revision same =
    let read = c.in_ok-read in
    let parts = view_split rules_of v holds c.args.entries.now same read.read.items c.len.result (omega (arith, c.len.ensures, c.in_ok-read.read.ok.0)) read.ensures.entries read.ensures.stops in
    let bad : IsErrOf c.with_plans.result EntryFault.Damaged = search rules in
    c.with_plans.ensures.damaged bad v.objects (map event_entry v.events) read.ensures.storable
    (all_followed rules_of v.objects v.events holds.objects holds.few holds.ascends) parts.0 parts.1

pub returns-in_err-events-clause-damaged : goal.returns-in_err-events-clause-damaged
returns-in_err-events-clause-damaged c is_damaged rules_of v holds revision same =
    let all : List Entry = c.args.entries.now in
    let n = c.len.result in
    let behind : List Entry = take (length all - n) (drop n all) in
    let read = c.in_ok-read in
    let parts = view_split rules_of v holds all same read.read.items n (omega (arith, c.len.ensures, c.in_ok-read.read.ok.0)) read.ensures.entries read.ensures.stops in
    let found =
    c.in_ok-objects.ensures.found v.objects (map event_entry v.events) read.ensures.storable
    (all_followed rules_of v.objects v.events holds.objects holds.few holds.ascends) parts.0 parts.1
    in
    let bad : IsErrOf c.read_events.result EntryFault.Damaged = search rules in
    c.read_events.ensures.damaged bad v.events (all_events rules_of v.events holds.events) (sym found.1 ∙ sym (take_rest behind c.in_ok-objects.count))

pub returns-then-not-are_numbered-clause-damaged : goal.returns-then-not-are_numbered-clause-damaged
returns-then-not-are_numbered-clause-damaged c is_damaged rules_of v holds revision same =
    let all : List Entry = c.args.entries.now in
    let n = c.len.result in
    let behind : List Entry = take (length all - n) (drop n all) in
    let read = c.in_ok-read in
    let parts = view_split rules_of v holds all same read.read.items n (omega (arith, c.len.ensures, c.in_ok-read.read.ok.0)) read.ensures.entries read.ensures.stops in
    let found =
    c.in_ok-objects.ensures.found v.objects (map event_entry v.events) read.ensures.storable
    (all_followed rules_of v.objects v.events holds.objects holds.few holds.ascends) parts.0 parts.1
    in
    let events : List (Event Document) = c.in_ok-events.events.items in
    let are : events ≡ v.events =
    one_events events v.events c.in_ok-events.ensures.storable (all_events rules_of v.events holds.events)
    (c.in_ok-events.ensures.entries ∙ take_rest behind c.in_ok-objects.count ∙ found.1)
    in
    let there : c.deref.result.now ≡ v.events = c.deref.ensures.value ∙ are in
    let At : ℕ → Type 0 = λ r. AreNumberedFrom (r - length v.events) v.events in
    let Numbered : List (Event Document) → Type 0 = λ es. AreNumberedFrom (c.args.revision - length es) es in
    let yes : c.are_numbered.result ≡ true = c.are_numbered.ensures.1 (subst Numbered (sym there) (subst At revision holds.numbered)) in
    cc

pub returns-clause-found : goal.returns-clause-found
returns-clause-found c rules_of v holds same revision =
    let all : List Entry = c.args.entries.now in
    let n = c.len.result in
    let behind : List Entry = take (length all - n) (drop n all) in
    let read = c.in_ok-read in
    let parts = view_split rules_of v holds all same read.read.items n (omega (arith, c.len.ensures, c.in_ok-read.read.ok.0)) read.ensures.entries read.ensures.stops in
    let found =
    c.in_ok-objects.ensures.found v.objects (map event_entry v.events) read.ensures.storable
    (all_followed rules_of v.objects v.events holds.objects holds.few holds.ascends) parts.0 parts.1
    in
    let events : List (Event Document) = c.in_ok-events.events.items in
    let are : events ≡ v.events =
    one_events events v.events c.in_ok-events.ensures.storable (all_events rules_of v.events holds.events)
    (c.in_ok-events.ensures.entries ∙ take_rest behind c.in_ok-objects.count ∙ found.1)
    in
    λ i. record { objects = found.0 i; revision = sym revision i; events = are i }

pub returns-clause-entries : goal.returns-clause-entries
returns-clause-entries c =
    let all : List Entry = c.args.entries.now in
    let n = c.len.result in
    let behind : List Entry = take (length all - n) (drop n all) in
    let read = c.in_ok-read in
    let len : n ≡ length read.read.items = omega (arith, c.len.ensures, c.in_ok-read.read.ok.0) in
    let rest : behind ≡ drop (length read.read.items) all = take_rest all n ∙ ap (λ (m : ℕ). drop m all) len in
    let objects = c.in_ok-objects.ensures.objects in
    let events : map event_entry c.in_ok-events.events.items ≡ drop c.in_ok-objects.count behind = c.in_ok-events.ensures.entries ∙ take_rest behind c.in_ok-objects.count in
    (λ i. objects i ++ (plans_among bytes_beside c.in_ok-objects.objects.items ++ events i))
    ∙ ap (λ (back : List Entry). map entry_read read.read.items ++ back) (c.in_ok-objects.ensures.entries ∙ rest)
    ∙ read.ensures.entries
