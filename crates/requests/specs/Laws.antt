-- The law of what is stored.
use Rattle.std.specs.Prelude.{None}
use Rattle.jsondoc.specs.Json.{text}
use Rattle.names.specs.Key.{Key}
use Rattle.documents.specs.Document.{Document}
use Rattle.requests.specs.Manifest.{item, sound, IsManifestOf}
use Rattle.documents.specs.Form.{HasForm}

-- What is stored is read as itself: the text of a stored document, sent to the item of its key, asks for that document.
abbrev pub StoredIsRead : Type 0
StoredIsRead =
    (k : Key) (d : Document) → HasForm k d → IsManifestOf (item k) (text d.json) (record { key = k; body = sound d; version = None })
