-- The options in the body of a DELETE (Kubernetes API, meta/v1, "DeleteOptions"), and what refuses such a body.
use Rattle.std.specs.Prelude.{ℕ, List, [], ◌∷◌, Bool, true, not, ◌&&◌, codes, if◌then◌else◌, Option, None, option_and_then}
use Rattle.std.specs.Str.{bytes_eq}
use Rattle.serde_json.specs.Data.{Data}
use Rattle.serde_json.specs.Find.{get, as_str}
use Rattle.jsondoc.specs.Json.{Reading, not_json, not_whole, document, reading}
use Rattle.documents.specs.Document.{is_text, is_text_that, is_object_of}
use Rattle.requests.specs.declared.refusal.Refusal.{Refusal}
use Rattle.requests.specs.declared.refusal.Refusal.TheVariants.{BodyIsNotJson, NumberOutsideRange, BadDeleteOptions}
use Rattle.requests.specs.Refusal.{Condition, first_of}

-- preconditions may have a resourceVersion, a text, and nothing else
abbrev pub is_precondition : List ℕ → Data → Bool
is_precondition name value = bytes_eq name (codes "resourceVersion") && is_text value

-- options may have the apiVersion `v1`, the kind `DeleteOptions`, preconditions, and nothing else
abbrev pub is_option : List ℕ → Data → Bool
is_option name value =
    if bytes_eq name (codes "apiVersion") then is_text_that (bytes_eq (codes "v1")) value
    else (if bytes_eq name (codes "kind") then is_text_that (bytes_eq (codes "DeleteOptions")) value
    else bytes_eq name (codes "preconditions") && is_object_of is_precondition value)

abbrev pub are_delete_options : Data → Bool
are_delete_options d = is_object_of is_option d

abbrev pub options_conditions : Reading → List Condition
options_conditions not_json = (BodyIsNotJson, true) ∷ []
options_conditions not_whole = (NumberOutsideRange, true) ∷ []
options_conditions (document d) = (BadDeleteOptions, not (are_delete_options d)) ∷ []

-- each refusal of the body of a DELETE, in order, and whether its condition holds: nothing refuses an empty one
abbrev pub delete_body_conditions : List ℕ → List Condition
delete_body_conditions [] = []
delete_body_conditions (b ∷ bs) = options_conditions (reading (b ∷ bs))

abbrev pub delete_body_refusal : List ℕ → Option Refusal
delete_body_refusal body = first_of (delete_body_conditions body)

-- the text of the revision that options ask for, if they ask for one
abbrev pub version_of_options : Data → Option (List ℕ)
version_of_options d = option_and_then as_str (option_and_then (get (codes "resourceVersion")) (get (codes "preconditions") d))

abbrev version_of_reading : Reading → Option (List ℕ)
version_of_reading not_json = None
version_of_reading not_whole = None
version_of_reading (document d) = version_of_options d

-- the text of the revision that a body asks for: an empty one asks for none
abbrev pub version_of_body : List ℕ → Option (List ℕ)
version_of_body [] = None
version_of_body (b ∷ bs) = version_of_reading (reading (b ∷ bs))
