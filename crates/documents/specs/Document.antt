-- Objects as documents (Kubernetes API conventions, "Types (Kinds)" and "Metadata").
use Rattle.std.specs.Prelude.{ℕ, List, [], ◌∷◌, Bool, false, true, ◌&&◌, ◌||◌, codes, decimal, if◌then◌else◌, Option, option_and_then, is_some, unwrap_or}
use Rattle.std.specs.Option.{option_map_or}
use Rattle.std.specs.Str.{bytes_eq}
use Rattle.serde_json.specs.Data.{Data, null, string, object, Members, no_members, member, put}
use Rattle.serde_json.specs.Find.{get, as_str, as_object}
use Rattle.jsondoc.specs.Json.{with_member}
use Rattle.names.specs.declared.resource.Resource.{Resource}
use Rattle.names.specs.Key.{is_name_of}
use Rattle.names.specs.Name.{is_namespace, is_name}
use Rattle.names.specs.Resource.{row, api_version}

-- what is stored of an object
pub record Document : Type 0 where
  pub json : Data

abbrev pub members : List (List ℕ × Data) → Members
members [] = no_members
members (m ∷ ms) = put m.0 m.1 (members ms)

-- the object with these members
abbrev pub object_of : List (List ℕ × Data) → Data
object_of ms = object (members ms)

-- ---- metadata

abbrev pub metadata_of : Data → Data
metadata_of d = unwrap_or (get (codes "metadata") d) null

-- the text of a member of the metadata
abbrev pub metadata_text : List ℕ → Data → Option (List ℕ)
metadata_text name d = option_and_then as_str (get name (metadata_of d))

-- the value is a text that passes
abbrev pub is_text_that : (List ℕ → Bool) → Data → Bool
is_text_that passes d = option_map_or passes (as_str d) false

abbrev pub each_member : (List ℕ → Data → Bool) → Members → Bool
each_member passes no_members = true
each_member passes (member name d ms) = passes name d && each_member passes ms

-- the value is an object each of whose members passes
abbrev pub is_object_of : (List ℕ → Data → Bool) → Data → Bool
is_object_of passes d = option_map_or (each_member passes) (as_object d) false

abbrev pub is_text : Data → Bool
is_text d = is_some (as_str d)

abbrev pub are_texts : Data → Bool
are_texts d = is_object_of (λ _ value. is_text value) d

-- metadata may have a well-formed name and namespace, labels and annotations of texts, a resourceVersion, and nothing else
abbrev pub is_metadata_member : List ℕ → Data → Bool
is_metadata_member name value =
    if bytes_eq name (codes "name") then is_text_that is_name value
    else (if bytes_eq name (codes "namespace") then is_text_that is_namespace value
    else (if bytes_eq name (codes "labels") || bytes_eq name (codes "annotations") then are_texts value
    else bytes_eq name (codes "resourceVersion") && is_text value))

-- metadata, which has a name
abbrev pub is_metadata : Data → Bool
is_metadata metadata = is_object_of is_metadata_member metadata && is_some (get (codes "name") metadata)

-- metadata, whose name may name an object of the resource
abbrev pub is_metadata_of : Resource → Data → Bool
is_metadata_of r metadata = is_metadata metadata && option_map_or (is_name_of r) (option_and_then as_str (get (codes "name") metadata)) false

-- ---- kind and version

abbrev pub has_text : List ℕ → List ℕ → Data → Bool
has_text name text d = option_map_or (bytes_eq text) (option_and_then as_str (get name d)) false

-- the object is of this resource
abbrev pub has_kind : Resource → Data → Bool
has_kind r d = has_text (codes "apiVersion") (api_version r) d && has_text (codes "kind") (row r).kind d

-- The object as it is shown: the stored document, with the revision of its last write as `metadata.resourceVersion`.
abbrev pub shown : Document → ℕ → Data
shown d revision =
    with_member (codes "metadata") (with_member (codes "resourceVersion") (string (decimal revision)) (metadata_of d.json)) d.json
