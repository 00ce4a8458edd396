use Rattle.std.proofs.Common.{arith, ◌≡◌, ◌∙◌, sym, ap, ◌+◌, List, [], ◌∷◌, ◌++◌, map, drop, append_assoc}
use Rattle.std.proofs.lemmas.List.{map_push, drop_more}
use Rattle.window.specs.declared.event.Event.{Event}
use Rattle.documents.specs.Document.{Document}
use Rattle.pages.specs.Page.{Entry}
use Rattle.checkpoint.specs.EntryList.{listed}
use Rattle.records.specs.Entries.{event_entry}
use Rattle.snapshots.proofs.event_entries.add_events.Goals as goal

pub loop-event-preserved : goal.loop-event-preserved
loop-event-preserved c =
    let now : List Entry = listed c.loop-event.entries.items in
    let e : Event Document = c.event-item.result.now in
    let index = c.loop-event.event-index in
    let all = c.args.events.now in
    let rest : List (Event Document) = map (λ event. event.now) (drop (index + 1) all) in
    let step : map (λ event. event.now) (drop index all) ≡ e ∷ rest =
    ap (map (λ event. event.now)) (drop_more all index c.event-item.result (omega arith) ∙ ap (λ x. x ∷ drop (index + 1) all) (sym c.event-item.is))
    in
    let new : listed c.push.new.self.items ≡ now ++ event_entry e ∷ [] =
    ap listed c.in_ok-push.ensures.items
    ∙ map_push (λ pair. (pair.0.items, pair.1.items)) c.loop-event.entries.items c.into_parts.result
    ∙ ap (λ (x : Entry). now ++ x ∷ []) (c.into_parts.ensures ∙ c.in_ok-event_entry.ensures)
    in
    ap (λ (es : List Entry). es ++ map event_entry rest) new
    ∙ append_assoc now (event_entry e ∷ []) (map event_entry rest)
    ∙ ap (λ (es : List (Event Document)). now ++ map event_entry es) (sym step)
    ∙ c.loop-event.invariant
