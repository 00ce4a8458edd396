-- Label selectors (Kubernetes, "Labels and Selectors", LabelSelector): the labels of an object, and whether it is selected.
use Rattle.std.specs.Prelude.{ℕ, List, Bool, false, not, codes, Option, is_some, is_none, option_and_then}
use Rattle.std.specs.List.{list_all, list_any}
use Rattle.std.specs.Option.{option_map_or}
use Rattle.std.specs.Str.{bytes_eq}
use Rattle.serde_json.specs.Data.{Data}
use Rattle.serde_json.specs.Find.{get, as_str}
use Rattle.documents.specs.Requirement.{Requirement, is_one_of, is_none_of, is_there, is_absent}

-- the text is one of these
abbrev pub is_among : List (List ℕ) → List ℕ → Bool
is_among texts text = list_any (bytes_eq text) texts

-- the value of a label: the text that is this member of `metadata.labels`
abbrev pub label_of : (key : List ℕ) → Data → Option (List ℕ)
label_of key document =
    option_and_then as_str (option_and_then (get key) (option_and_then (get (codes "labels")) (get (codes "metadata") document)))

-- the object has the label, and its value is one of these
abbrev pub has_one_of : (key : List ℕ) → (values : List (List ℕ)) → Data → Bool
has_one_of key values document = option_map_or (is_among values) (label_of key document) false

abbrev pub meets : Data → Requirement → Bool
meets document (is_one_of key values) = has_one_of key values document
meets document (is_none_of key values) = not (has_one_of key values document)
meets document (is_there key) = is_some (label_of key document)
meets document (is_absent key) = is_none (label_of key document)

-- the object meets each requirement
abbrev pub selects : List Requirement → Data → Bool
selects requirements document = list_all (meets document) requirements
