use Rattle.std.proofs.Common.{rules, ◌≡◌, ◌∙◌, sym, ap, subst, List, [], ◌∷◌, ◌++◌, map, take}
use Rattle.std.specs.Prelude.{IsErrOf}
use Rattle.std.proofs.lemmas.List.{take_more, map_push}
use Rattle.std.specs.List.{AllByRecursion}
use Rattle.records.proofs.Groups.{all-push}
use Rattle.window.specs.declared.event.Event.{Event}
use Rattle.documents.specs.Document.{Document}
use Rattle.pages.specs.Page.{Entry}
use Rattle.records.specs.declared.entry_fault.EntryFault.TheVariants as EntryFault
use Rattle.records.specs.Entries.{event_entry}
use Rattle.records.specs.Holding.{IsStorableEvent}
use Rattle.records.proofs.FoundAgain.{event_at_index}
use Rattle.records.proofs.reading.read_events.Goals as goal

pub returns-in_err-read_event-clause-damaged : goal.returns-in_err-read_event-clause-damaged
returns-in_err-read_event-clause-damaged c is_damaged es can same =
    let x : Entry = c.entry-item.result in
    let told : ◌≡◌ {A = Entry} (c.key.result.now, c.cell.result.now) x = λ j. (c.key.ensures j, c.cell.ensures j) in
    let bad : IsErrOf c.read_event.result EntryFault.Damaged = search rules in
    let found = event_at_index es c.args.entries.now c.loop-entry.entry-index x can same c.loop-entry-test.true c.entry-item.is in
    c.read_event.ensures.damaged bad found.0 found.1 (found.2 ∙ sym told)

pub loop-entry-preserved : goal.loop-entry-preserved
loop-entry-preserved c =
    let x : Entry = c.entry-item.result in
    let all : List Entry = c.args.entries.now in
    let i = c.loop-entry.entry-index in
    let e : Event Document = c.in_ok-read_event.field-0 in
    let events : List (Event Document) = c.loop-entry.events.items in
    let inv = c.loop-entry.invariant in
    let told : ◌≡◌ {A = Entry} (c.key.result.now, c.cell.result.now) x = λ j. (c.key.ensures j, c.cell.ensures j) in
    let now : c.push.new.self.items ≡ events ++ e ∷ [] = c.in_ok-push.ensures.items in (
      ap (map event_entry) now ∙ map_push event_entry events e
          ∙ ap (λ (front : List Entry). front ++ event_entry e ∷ []) inv.0
          ∙ ap (λ (y : Entry). take i all ++ y ∷ []) (c.in_ok-read_event.ensures.entry ∙ told ∙ c.entry-item.is)
          ∙ sym (take_more all i x c.loop-entry-test.true),
      subst (AllByRecursion IsStorableEvent) (sym now) (all-push IsStorableEvent events e inv.1 c.in_ok-read_event.ensures.form),
    )
