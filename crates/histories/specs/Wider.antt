-- Rules under which a history of others stays one, and is seen as it was.
use Rattle.std.specs.Prelude.{◌≡◌, ◌≤◌, ◌-◌, ℕ, List, max, true}
use Rattle.names.specs.Format.{has_namespaces}
use Rattle.names.specs.declared.format.Rules.{Rules}
use Rattle.histories.specs.History.{Write}
use Rattle.histories.specs.View.{view, AllFollow}

-- Each limit is at least as great, and namespaces are objects where they were.
pub record AreWider (old new : Rules) : Type 0 where
  pub texts : old.text_limit_bytes ≤ new.text_limit_bytes
  pub objects : old.object_limit ≤ new.object_limit
  pub revisions : old.greatest_revision ≤ new.greatest_revision
  pub namespaces : has_namespaces old.format ≡ true → has_namespaces new.format ≡ true

-- the revision up to which no event is known, of a store at a revision whose window has so many events
abbrev pub floor_at : (window revision : ℕ) → ℕ
floor_at window revision = max 1 (revision - window)

-- Under wider rules a history stays one.
abbrev pub HistoriesStay : (P : Type 0) → Type 0
HistoriesStay P = (old new : Rules) (h : List (Write P)) → AreWider old new → AllFollow old h → AllFollow new h

-- Under rules with the same window and the same floor a history is seen as it was.
abbrev pub ViewsStay : (P : Type 0) → Type 0
ViewsStay P = (old new : Rules) (h : List (Write P)) → new.window_events ≡ old.window_events → new.floor ≡ old.floor → view new h ≡ view old h

-- So it is under rules with a wider window, whose floor is the revision up to which the old window has no event.
abbrev pub ViewsStayAboveFloor : (P : Type 0) → Type 0
ViewsStayAboveFloor P =
    (old new : Rules) (h : List (Write P)) → old.floor ≡ 0 → old.window_events ≤ new.window_events
    → new.floor ≡ floor_at old.window_events (view old h).revision → view new h ≡ view old h
