use Rattle.std.proofs.Common.{◌≡◌, ◌∙◌, sym, ap, List, [], ◌∷◌, ◌++◌, map, append_assoc}
use Rattle.std.proofs.lemmas.List.{map_push}
use Rattle.window.specs.declared.event.Event.{Event}
use Rattle.documents.specs.Document.{Document}
use Rattle.snapshots.proofs.lent.lent_events.Goals as goal

pub loop-event-preserved : goal.loop-event-preserved
loop-event-preserved c =
    let now : List (Event Document) = map (λ event. event.now) c.loop-event.lent.items in
    let e : Event Document = c.in-Some.event.now in
    let rest : List (Event Document) = c.next.new.self in
    let step : c.loop-event.event-iterator ≡ e ∷ rest = c.in-Some.ensures.steps in
    let new : map (λ event. event.now) c.push.new.self.items ≡ now ++ e ∷ [] =
    ap (map (λ event. event.now)) c.in_ok-push.ensures.items ∙ map_push (λ event. event.now) c.loop-event.lent.items c.in-Some.event
    in
    ap (λ (es : List (Event Document)). es ++ rest) new
    ∙ append_assoc now (e ∷ []) rest
    ∙ ap (λ (es : List (Event Document)). now ++ es) (sym step)
    ∙ c.loop-event.invariant
