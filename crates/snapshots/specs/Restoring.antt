-- A store that is made again from what entries keep, part by part.
use Rattle.std.specs.Prelude.{◌≡◌, ◌<◌, ◌≤◌, ◌⊎◌, ℕ, ◌+◌, ◌-◌, Bool, List, [], ◌++◌, map, length, Some, Result, IsTrue, IsErrOf}
use Rattle.std.specs.FinMap.{is_sorted}
use Rattle.std.specs.List.{AllByRecursion}
use Rattle.names.specs.declared.format.Rules.{Rules}
use Rattle.names.specs.declared.resource.Resource.{Resource}
use Rattle.names.specs.Key.{Key, key_cmp}
use Rattle.objects.specs.Objects.{value_at, with_value}
use Rattle.objects.specs.Merged.{merged}
use Rattle.window.specs.declared.event.Event.{Event}
use Rattle.window.specs.Window.{AreNumberedFrom}
use Rattle.documents.specs.Document.{Document}
use Rattle.histories.specs.declared.stored.Stored.{Stored}
use Rattle.histories.specs.View.{View}
use Rattle.holdings.specs.Holdings.{State, Shows}
use Rattle.expressions.specs.Specification.{MayHavePlans}
use Rattle.pages.specs.Page.{Entry}
use Rattle.decoded.specs.Decoded.{Decoded, spelled}
use Rattle.snapshots.specs.LyingBelow.{puts_of, below_at, HasThoseBelow, MayLieBelow}
use Rattle.snapshots.specs.Keeping.{held_plans, held_entries, IsHeld}
use Rattle.snapshots.specs.declared.fault.SnapshotFault.{SnapshotFault}
use Rattle.snapshots.specs.declared.fault.SnapshotFault.TheVariants as fault

abbrev pub IsDamaged : {T : Type 0} → Result T SnapshotFault → Type 0
IsDamaged r = IsErrOf r fault.Entry ⊎ IsErrOf r fault.Plans

module _ {P : Type 0} (plans : Key × Stored P → List ℕ) where
  -- an object with the bytes of its plans beside its document, as entries keep it
  abbrev pub in_bytes : Key × Stored P → Key × Stored (List ℕ)
  in_bytes o = (o.0, record { document = o.1.document; beside = plans o; revision = o.1.revision })

  abbrev pub view_in_bytes : View P → View (List ℕ)
  view_in_bytes v = record { objects = map in_bytes v.objects; revision = v.revision; events = v.events }

-- Beside the object's document stands what it spells, with such plans as it may have.
pub record IsSpelled (o : Key × Stored Decoded) : Type 0 where
  pub plans : MayHavePlans o.0.resource o.1.document.json o.1.beside.plans
  pub beside : o.1.beside ≡ spelled o.1.document.json o.1.beside.plans

-- It is the one that entries keep.
pub record IsHeldOf (o : Key × Stored Decoded) (kept : Key × Stored (List ℕ)) : Type 0 where
  pub is : in_bytes held_plans o ≡ kept
  pub spelled : IsSpelled o

-- These objects are those that entries keep, and their keys ascend.
pub record AreHeldOf (os : List (Key × Stored Decoded)) (kept : List (Key × Stored (List ℕ))) : Type 0 where
  pub are : map (in_bytes held_plans) os ≡ kept
  pub spelled : AllByRecursion IsSpelled os
  pub ascends : IsTrue (is_sorted key_cmp os)

-- ---- what is shown

-- as many objects as lie below, and the revision before the events of a view that entries keep
abbrev pub without_events : List (Key × Stored Decoded) → View (List ℕ) → View Decoded
without_events base kept = record { objects = base; revision = kept.revision - length kept.events; events = [] }

-- the view with these objects
abbrev pub with_objects : View Decoded → List (Key × Stored Decoded) → View Decoded
with_objects v os = record { objects = os; revision = v.revision; events = v.events }

-- the view with these events more, each that of a revision more
abbrev pub with_events : View Decoded → List (Event Document) → View Decoded
with_events v events = record { objects = v.objects; revision = v.revision + length events; events = v.events ++ events }

-- This view is shown, and the events may be kept after its own: their revisions count up from the view's, which is not below the floor where there are any,
-- and the window has places for them.
pub record CanKeep (core : State Decoded) (base : List (Key × Stored Decoded)) (v : View Decoded) (events : List (Event Document)) : Type 0 where
  pub shows : Shows core base v
  pub numbered : AreNumberedFrom v.revision events
  pub above : 0 < length events → core.rules.floor ≤ v.revision
  pub places : length v.events + length events ≤ core.rules.window_events

-- One object more is held, over what lies below: it has a change, and is shown where it was, if it lies below, or as one more.
pub record HasTaken (lies : Resource → Bool) (old new : State Decoded) (o : Key × Stored Decoded) : Type 0 where
  pub made : new.changes.made ≡ with_value o.0 (Some o.1) old.changes.made
  pub shows : (base : List (Key × Stored Decoded)) (v : View Decoded) → Shows old base v → value_at o.0 v.objects ≡ below_at lies o
      → Shows new base (with_objects v (with_value o.0 o.1 v.objects))

-- Where none was held, those are that entries keep: they have the changes, and are shown over what lies below.
pub record AreRestored (lies : Resource → Bool) (old new : State Decoded) (kept : List (Key × Stored (List ℕ))) : Type 0 where
  pub objects : List (Key × Stored Decoded)
  pub held : AreHeldOf objects kept
  pub made : new.changes.made ≡ puts_of objects
  pub shows : (base : List (Key × Stored Decoded)) (v : View Decoded) → Shows old base v → HasThoseBelow lies objects base
      → Shows new base (with_objects v (merged (puts_of objects) base))

-- A view may be held after a checkpoint that has these entries and this revision, and over each list of this many objects that may lie below what is
-- kept it is shown, with what those that are kept leave of it.
pub record IsRestored (rules : Rules) (lies : Resource → Bool) (all : List Entry) (count number : ℕ) (core : State Decoded) : Type 0 where
  pub kept : View Decoded
  pub held : IsHeld rules kept
  pub entries : held_entries kept ≡ all
  pub revision : kept.revision ≡ number
  pub shows : (base : List (Key × Stored Decoded)) → MayLieBelow lies kept.objects count base
      → Shows core base (with_objects kept (merged (puts_of kept.objects) base))
