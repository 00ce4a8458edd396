-- The events of a history.
use Rattle.std.specs.Prelude.{List, [], ◌∷◌}
use Rattle.names.specs.declared.format.Rules.{Rules}
use Rattle.window.specs.declared.event.Event.{Event}
use Rattle.documents.specs.Document.{Document}
use Rattle.histories.specs.History.{Write}
use Rattle.histories.specs.View.{View, event_of, after}

-- the events of writes that follow a view, all of them
abbrev pub events_from : {P : Type 0} → Rules → View P → List (Write P) → List (Event Document)
events_from rules v [] = []
events_from rules v (w ∷ ws) = event_of v w ∷ events_from rules (after rules v w) ws
