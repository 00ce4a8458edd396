-- Lists of objects, and the events of a watch (Kubernetes API concepts, "Resource versions", "Efficient detection of changes").
use Rattle.std.specs.Prelude.{ℕ, ◌+◌, List, [], ◌∷◌, ◌++◌, map, codes, decimal, nat_lt, ◌||◌}
use Rattle.std.specs.List.{filter, concat}
use Rattle.serde_json.specs.Data.{Data, string, array}
use Rattle.serde_json.specs.View.{items_of}
use Rattle.jsondoc.specs.Json.{text}
use Rattle.names.specs.declared.format.Rules.{Rules}
use Rattle.names.specs.declared.resource.Resource.{Resource}
use Rattle.names.specs.Key.{Key}
use Rattle.names.specs.Resource.{row, api_version}
use Rattle.window.specs.declared.event.Change.{Change}
use Rattle.window.specs.declared.event.Change.TheVariants.{Added, Modified, Deleted}
use Rattle.window.specs.declared.event.Event.{Event}
use Rattle.window.specs.Window.{events_above}
use Rattle.histories.specs.declared.stored.Stored.{Stored}
use Rattle.documents.specs.Document.{Document, object_of, shown}
use Rattle.requests.specs.declared.refusal.Refusal.TheVariants.{BadVersion, Expired}
use Rattle.requests.specs.Collection.{Collection, has_key}
use Rattle.requests.specs.Refusal.{Condition}
use Rattle.documents.specs.Requirement.{Requirement}
use Rattle.requests.specs.Selector.{selects}
use Rattle.requests.specs.Reply.{Reply}
use Rattle.histories.specs.View.{View}

-- a reply with this body to a request that is served
abbrev pub served : (body : List ℕ) → Reply
served body = record { code = 200; warnings = []; body = body }

-- ---- lists

-- the objects of a collection, in key order
abbrev pub objects_in : {P : Type 0} → Collection → View P → List (Key × Stored P)
objects_in c v = filter (λ entry. has_key c entry.0) v.objects

-- the objects that a selector selects, as they are shown
abbrev pub shown_items : {P : Type 0} → List Requirement → List (Key × Stored P) → List Data
shown_items selector entries =
    map (λ entry. shown entry.1.document entry.1.revision) (filter (λ entry. selects selector entry.1.document) entries)

-- the list of a resource with these items, at a revision
abbrev pub list_of : Resource → (revision : ℕ) → (items : Data) → Data
list_of r revision items =
    object_of (
    (codes "apiVersion", string (api_version r))
    ∷ (codes "items", items)
    ∷ (codes "kind", string ((row r).kind ++ codes "List"))
    ∷ (codes "metadata", object_of ((codes "resourceVersion", string (decimal revision)) ∷ []))
    ∷ [])

-- the list of a collection's objects that a selector selects
abbrev pub list_document : {P : Type 0} → View P → Collection → List Requirement → Data
list_document v c selector = list_of c.resource v.revision (array (items_of (shown_items selector (objects_in c v))))

abbrev pub listing : {P : Type 0} → View P → Collection → List Requirement → Reply
listing v c selector = served (text (list_document v c selector))

-- ---- watches

-- What refuses a watch of the events above a revision: the revision is above the current one, or so old that some of these
-- events may have left the window, or below the floor, up to which none is kept.
abbrev pub watch_conditions : {P : Type 0} → Rules → View P → (revision : ℕ) → List Condition
watch_conditions rules v revision =
    (BadVersion, nat_lt v.revision revision) ∷ (Expired, nat_lt (revision + rules.window_events) v.revision || nat_lt revision rules.floor) ∷ []

abbrev pub change_text : Change → List ℕ
change_text Added = codes "ADDED"
change_text Modified = codes "MODIFIED"
change_text Deleted = codes "DELETED"

-- an event as a watch tells it: the object with the revision of this write, and how the write changed it
abbrev pub event_document : Event Document → Data
event_document e =
    object_of ((codes "object", shown e.document e.revision) ∷ (codes "type", string (change_text e.change)) ∷ [])

abbrev pub line_feed : ℕ
line_feed = 10

-- the lines of a collection's events, one an event
abbrev pub lines_of : Collection → List (Event Document) → List ℕ
lines_of c events = concat (map (λ e. text (event_document e) ++ line_feed ∷ []) (filter (λ e. has_key c e.key) events))

-- the events of a collection above a revision, oldest first
abbrev pub watching : {P : Type 0} → View P → Collection → (revision : ℕ) → Reply
watching v c revision = served (lines_of c (events_above revision v.events))
