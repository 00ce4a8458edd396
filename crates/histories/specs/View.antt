-- What is seen of a history: its objects, its revision and its last events. And what may follow it.
use Rattle.std.specs.Prelude.{◌≡◌, ℕ, ◌+◌, ◌<◌, ◌≤◌, true, List, [], ◌∷◌, ◌++◌, length, Bool, nat_lt, nat_le, IsTrue, if◌then◌else◌, Option, is_some, ◌⊎◌}
use Rattle.std.specs.Option.{option_map_or}
use Rattle.circular_buffer.specs.Buffer.{keep_last}
use Rattle.serde_json.specs.Data.{null}
use Rattle.jsondoc.specs.Json.{text}
use Rattle.names.specs.declared.format.Rules.{Rules}
use Rattle.names.specs.Format.{has_resource}
use Rattle.names.specs.Key.{Key}
use Rattle.objects.specs.Objects.{value_at, with_value, without_key}
use Rattle.window.specs.declared.event.Change.{Change}
use Rattle.window.specs.declared.event.Change.TheVariants.{Added, Modified, Deleted}
use Rattle.window.specs.declared.event.Event.{Event}
use Rattle.window.specs.Window.{event_at, events_above}
use Rattle.documents.specs.Document.{Document}
use Rattle.documents.specs.Form.{HasForm}
use Rattle.histories.specs.declared.stored.Stored.{Stored}
use Rattle.histories.specs.History.{Write, put, delete}

-- the objects in key order, the revision, and the events of the last writes, oldest first
pub record View (P : Type 0) : Type 0 where
  pub objects : List (Key × Stored P)
  pub revision : ℕ
  pub events : List (Event Document)

abbrev pub is_too_large : Rules → Document → Bool
is_too_large rules d = nat_lt rules.text_limit_bytes (length (text d.json))

module _ {P : Type 0} where
  abbrev pub stored_at : View P → Key → Option (Stored P)
  stored_at v k = value_at k v.objects

  abbrev pub exists : View P → Key → Bool
  exists v k = is_some (stored_at v k)

  -- the document that stands at a key, which a deletion removes
  abbrev pub document_at : View P → Key → Document
  document_at v k = option_map_or (λ s. s.document) (stored_at v k) (record { json = null })

  -- ---- one more write

  abbrev pub objects_after : View P → Write P → List (Key × Stored P)
  objects_after v (put k d b) = with_value k (record { document = d; beside = b; revision = v.revision + 1 }) v.objects
  objects_after v (delete k) = without_key k v.objects

  -- a put changes the object at its key, or adds one
  abbrev pub change_at : View P → Key → Change
  change_at v k = if exists v k then Modified else Added

  -- The event of an accepted write: Added where the key had no object before, Modified where it had one, Deleted for a
  -- deletion, which tells the document that it removed.
  abbrev pub event_of : View P → Write P → Event Document
  event_of v (put k d b) = event_at (v.revision + 1) (change_at v k) k d
  event_of v (delete k) = event_at (v.revision + 1) Deleted k (document_at v k)

  -- what is seen after one more write: its event is told if it is above the floor
  abbrev pub after : Rules → View P → Write P → View P
  after rules v w = record {
    objects = objects_after v w;
    revision = v.revision + 1;
    events = keep_last rules.window_events (v.events ++ events_above rules.floor (event_of v w ∷ []));
  }

  abbrev pub after_all : Rules → View P → List (Write P) → View P
  after_all rules v [] = v
  after_all rules v (w ∷ ws) = after_all rules (after rules v w) ws

  -- an empty store has revision 1
  abbrev pub empty : View P
  empty = record { objects = []; revision = 1; events = [] }

  abbrev pub view : Rules → List (Write P) → View P
  view rules h = after_all rules empty h

  -- ---- what may follow

  abbrev pub is_full : Rules → View P → Bool
  is_full rules v = nat_le rules.object_limit (length v.objects)

  abbrev pub is_exhausted : Rules → View P → Bool
  is_exhausted rules v = nat_le rules.greatest_revision v.revision

-- a put that may follow: of a resource that the format has, a document of the right form and size, at a key with an object or where there is room for one
-- more
pub record MayPut {P : Type 0} (rules : Rules) (v : View P) (k : Key) (d : Document) : Type 0 where
  pub served : has_resource rules.format k.resource ≡ true
  pub form : HasForm k d
  pub size : length (text d.json) ≤ rules.text_limit_bytes
  pub room : IsTrue (exists v k) ⊎ (length v.objects < rules.object_limit)
  pub revision : v.revision < rules.greatest_revision

-- a deletion that may follow: of an object
pub record MayDelete {P : Type 0} (rules : Rules) (v : View P) (k : Key) : Type 0 where
  pub object : IsTrue (exists v k)
  pub revision : v.revision < rules.greatest_revision

module _ {P : Type 0} where
  -- the write may follow a history of which v is seen
  abbrev pub MayFollow : Rules → View P → Write P → Type 0
  MayFollow rules v (put k d b) = MayPut rules v k d
  MayFollow rules v (delete k) = MayDelete rules v k

  abbrev pub AllMayFollow : Rules → View P → List (Write P) → Type 0
  AllMayFollow rules v [] = Unit {0}
  AllMayFollow rules v (w ∷ ws) = MayFollow rules v w × AllMayFollow rules (after rules v w) ws

  -- each write may follow those before it
  abbrev pub AllFollow : Rules → List (Write P) → Type 0
  AllFollow rules h = AllMayFollow rules empty h
