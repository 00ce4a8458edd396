-- The window of the last events.
use Rattle.std.specs.Prelude.{◌≡◌, ℕ, ◌+◌, List, [], ◌∷◌, ◌++◌, length, nat_lt}
use Rattle.std.specs.List.{filter}
use Rattle.circular_buffer.specs.Buffer.{keep_last}
use Rattle.names.specs.declared.format.Rules.{Rules}
use Rattle.names.specs.Key.{Key}
use Rattle.window.specs.declared.event.Change.{Change}
use Rattle.window.specs.declared.event.Event.{Event}

-- the last events, oldest first, the revision of the last write, how many events are kept, and the revision up to which none is
pub record Window (D : Type 0) : Type 0 where
  pub events : List (Event D)
  pub revision : ℕ
  pub places : ℕ
  pub floor : ℕ

module _ {D : Type 0} where
  abbrev pub event_at : ℕ → Change → Key → D → Event D
  event_at revision change key document = record { revision = revision; change = change; key = key; document = document }

  -- the revisions count up by one, from the one after this
  abbrev pub AreNumberedFrom : ℕ → List (Event D) → Type 0
  AreNumberedFrom revision [] = Unit {0}
  AreNumberedFrom revision (event ∷ events) = (event.revision ≡ revision + 1) × AreNumberedFrom (revision + 1) events

  -- the events above a revision, in their order
  abbrev pub events_above : ℕ → List (Event D) → List (Event D)
  events_above revision events = filter (λ event. nat_lt revision event.revision) events

  -- the window after all these events: the last of them above the floor, and a revision that is 1 without any and one more with each
  abbrev pub window_of : Rules → List (Event D) → Window D
  window_of rules all = record {
    events = keep_last rules.window_events (events_above rules.floor all);
    revision = 1 + length all;
    places = rules.window_events;
    floor = rules.floor;
  }

  -- the window with one more event, which is kept if it is above the floor
  abbrev pub with_event : Window D → Change → Key → D → Window D
  with_event window change key document = record {
    events = keep_last window.places (window.events ++ events_above window.floor (event_at (window.revision + 1) change key document ∷ []));
    revision = window.revision + 1;
    places = window.places;
    floor = window.floor;
  }

-- all events of a store, from its first, and the window after them
pub record IsWindowOf {D : Type 0} (rules : Rules) (all : List (Event D)) (window : Window D) : Type 0 where
  pub numbered : AreNumberedFrom 1 all
  pub shows : window ≡ window_of rules all
