-- Objects as Kubernetes clients send them, in the body of a POST or a PUT, and as they are read.
use Rattle.std.specs.Prelude.{ℕ, Bool, false, List, ◌||◌, ◌&&◌, codes, if◌then◌else◌, is_some, is_none, option_and_then}
use Rattle.std.specs.Option.{option_map_or}
use Rattle.serde_json.specs.Data.{Data, string, Members, no_members, member}
use Rattle.serde_json.specs.Find.{get, as_null, as_object}
use Rattle.jsondoc.specs.Json.{Reading, not_json, not_whole, document, reading, text, with_member, without_member}
use Rattle.names.specs.declared.resource.Resource.{Resource}
use Rattle.names.specs.Resource.{row, api_version}
use Rattle.documents.specs.Document.{metadata_of}
use Rattle.dialect.specs.Labels.{labelled, lacks_its_label}

abbrev pub is_null : Data → Bool
is_null d = is_some (as_null d)

-- ---- members of metadata that are null

abbrev pub has_null : Members → Bool
has_null no_members = false
has_null (member name d ms) = is_null d || has_null ms

-- an object, without those of these members that are null
abbrev pub without_each : (kept : Data) → Members → Data
without_each kept no_members = kept
without_each kept (member name d ms) = without_each (if is_null d then without_member name kept else kept) ms

abbrev pub without_nulls : Data → Data
without_nulls d = option_map_or (without_each d) (as_object d) d

abbrev pub has_null_metadata : Data → Bool
has_null_metadata d = option_map_or has_null (option_and_then as_object (get (codes "metadata") d)) false

-- the object without those members, where there are any
abbrev pub without_null_metadata : Data → Data
without_null_metadata d = if has_null_metadata d then with_member (codes "metadata") (without_nulls (metadata_of d)) d else d

-- ---- a version and a kind that are not there

abbrev pub lacks : (name : List ℕ) → Data → Bool
lacks name d = is_some (as_object d) && is_none (get name d)

-- the object with this text, where it has no such member
abbrev pub with_text : (name text : List ℕ) → Data → Data
with_text name text d = if lacks name d then with_member name (string text) d else d

-- those of the resource, where they are not there
abbrev pub with_kind : Resource → Data → Data
with_kind r d = with_text (codes "kind") (row r).kind (with_text (codes "apiVersion") (api_version r) d)

-- ---- all of it

-- something is to be left out or added
abbrev pub is_short : Resource → Data → Bool
is_short r d = has_null_metadata d || (lacks (codes "apiVersion") d || (lacks (codes "kind") d || lacks_its_label r d))

abbrev pub completed : Resource → Data → Data
completed r d = labelled r (with_kind r (without_null_metadata d))

abbrev object_text : Resource → (body : List ℕ) → Reading → List ℕ
object_text r body not_json = body
object_text r body not_whole = body
object_text r body (document d) = if is_short r d then text (completed r d) else body

-- The body of a POST or a PUT of an object of the resource. One to which nothing is to be added, or that is no document, stays as it is.
abbrev pub restated_object : Resource → (body : List ℕ) → List ℕ
restated_object r body = object_text r body (reading body)
