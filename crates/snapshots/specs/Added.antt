-- Objects put behind those of a view, each by one write more, and the Namespaces that an upgrade puts so.
use Rattle.std.specs.Prelude.{◌≡◌, ℕ, ◌+◌, List, [], ◌∷◌, ◌++◌, length, None}
use Rattle.circular_buffer.specs.Buffer.{keep_last}
use Rattle.names.specs.declared.resource.Resource.TheVariants.{Namespace}
use Rattle.names.specs.Key.{Key, key_of}
use Rattle.documents.specs.Document.{Document}
use Rattle.window.specs.declared.event.Change.TheVariants.{Added as WasAdded}
use Rattle.window.specs.declared.event.Event.{Event}
use Rattle.window.specs.Window.{event_at}
use Rattle.histories.specs.declared.stored.Stored.{Stored}
use Rattle.requests.specs.Codes.{document_in}
use Rattle.requests.specs.Manifest.{Manifest, sound}
use Rattle.requests.specs.Namespaces.{namespace_document}
use Rattle.histories.specs.View.{View}
use Rattle.expressions.specs.Specification.{these}
use Rattle.decoded.specs.Decoded.{Decoded, spelled}
use Rattle.snapshots.specs.declared.added.Added.{Added}

-- an object that was not there: its key, its document and what stands beside it
pub record NewObject (P : Type 0) : Type 0 where
  pub key : Key
  pub document : Document
  pub beside : P

module _ {P : Type 0} where
  -- it as the write behind this revision leaves it
  abbrev pub stored_from : (revision : ℕ) → NewObject P → Key × Stored P
  stored_from revision n = (n.key, record { document = n.document; beside = n.beside; revision = revision + 1 })

  -- objects as so many writes leave them
  abbrev pub objects_from : (revision : ℕ) → List (NewObject P) → List (Key × Stored P)
  objects_from revision [] = []
  objects_from revision (n ∷ ns) = stored_from revision n ∷ objects_from (revision + 1) ns

  -- the event of the write behind this revision
  abbrev pub event_from : (revision : ℕ) → NewObject P → Event Document
  event_from revision n = event_at (revision + 1) WasAdded n.key n.document

  -- the events of these writes
  abbrev pub events_from : (revision : ℕ) → List (NewObject P) → List (Event Document)
  events_from revision [] = []
  events_from revision (n ∷ ns) = event_from revision n ∷ events_from (revision + 1) ns

  -- a view with them, and of the events the last, as many as there are places
  abbrev pub with_added : (places : ℕ) → View P → List (NewObject P) → View P
  with_added places v ns = record {
    objects = v.objects ++ objects_from v.revision ns;
    revision = v.revision + length ns;
    events = keep_last places (v.events ++ events_from v.revision ns);
  }

-- These are new objects as the writes behind a revision leave them, and the events of these writes.
pub record AreAdded (added : Added) (revision : ℕ) (news : List (NewObject Decoded)) : Type 0 where
  pub objects : added.objects.items ≡ objects_from revision news
  pub events : added.events.items ≡ events_from revision news

-- the object that a manifest asks for, with what its document spells beside it, and no plans
abbrev pub new_of : Manifest → NewObject Decoded
new_of m = record { key = m.key; document = document_in m.body; beside = spelled (document_in m.body).json (these []) }

-- the manifest of a Namespace of which only the name is told
abbrev pub namespace_manifest : (name : List ℕ) → Manifest
namespace_manifest name = record { key = key_of Namespace [] name; body = sound (namespace_document name); version = None }
