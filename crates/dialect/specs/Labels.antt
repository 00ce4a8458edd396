-- The labels of a Namespace with the one of its name, which the API server of Kubernetes sets on each (Kubernetes, "Well-Known Labels, Annotations and
-- Taints", `kubernetes.io/metadata.name`).
use Rattle.std.specs.Prelude.{ℕ, Bool, false, List, ◌&&◌, not, codes, if◌then◌else◌, is_some, unwrap_or}
use Rattle.std.specs.Option.{option_map_or}
use Rattle.serde_json.specs.Data.{Data, string, object, no_members}
use Rattle.serde_json.specs.Find.{get, as_object}
use Rattle.jsondoc.specs.Json.{Reading, not_json, not_whole, document, reading, text, with_member}
use Rattle.names.specs.declared.resource.Resource.{Resource}
use Rattle.names.specs.declared.resource.Resource.TheVariants.{Namespace}
use Rattle.documents.specs.Document.{metadata_of, metadata_text, has_text}

abbrev pub name_label : List ℕ
name_label = codes "kubernetes.io/metadata.name"

-- the labels in metadata
abbrev pub labels_in : (metadata : Data) → Data
labels_in metadata = unwrap_or (get (codes "labels") metadata) (object no_members)

-- The metadata may have labels, and lacks this one with this value. Another value counts as none.
abbrev pub lacks_label : (name : List ℕ) → (metadata : Data) → Bool
lacks_label name metadata = is_some (as_object (labels_in metadata)) && not (has_text name_label name (labels_in metadata))

-- the metadata with this label
abbrev pub with_label : (name : List ℕ) → (metadata : Data) → Data
with_label name metadata = with_member (codes "labels") (with_member name_label (string name) (labels_in metadata)) metadata

abbrev pub labelled_by : (name : List ℕ) → Data → Data
labelled_by name d = if lacks_label name (metadata_of d) then with_member (codes "metadata") (with_label name (metadata_of d)) d else d

-- The object of a Namespace with the label of its name. One that has no name stays as it is, and so does any other object.
abbrev pub labelled : Resource → Data → Data
labelled Namespace d = option_map_or (λ name. labelled_by name d) (metadata_text (codes "name") d) d
labelled r d = d

-- the object is one of a Namespace, and lacks it
abbrev pub lacks_its_label : Resource → Data → Bool
lacks_its_label Namespace d = option_map_or (λ name. lacks_label name (metadata_of d)) (metadata_text (codes "name") d) false
lacks_its_label r d = false

abbrev labelled_text : Resource → (body : List ℕ) → Reading → List ℕ
labelled_text r body not_json = body
labelled_text r body not_whole = body
labelled_text r body (document d) = if lacks_its_label r d then text (labelled r d) else body

-- the body with the label, where it is one of a Namespace that lacks it
abbrev pub labelled_object : Resource → (body : List ℕ) → List ℕ
labelled_object r body = labelled_text r body (reading body)
