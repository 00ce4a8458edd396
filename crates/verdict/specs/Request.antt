-- The document `request` that expressions see of a write (Kubernetes, "Validating Admission Policy", and AdmissionRequest).
use Rattle.std.specs.Prelude.{◌∷◌, [], codes}
use Rattle.serde_json.specs.Data.{Data, string}
use Rattle.names.specs.Resource.{row}
use Rattle.names.specs.declared.resource.Resource.{Resource}
use Rattle.documents.specs.Document.{object_of}
use Rattle.policy.specs.declared.match_rules.Operation.{Operation}
use Rattle.policy.specs.declared.match_rules.Operation.TheVariants.{Create, Update, Delete}
use Rattle.policy.specs.Forms.{Text}
use Rattle.policy.specs.Rules.{Attempt}

abbrev pub operation_name : Operation → Text
operation_name Create = codes "CREATE"
operation_name Update = codes "UPDATE"
operation_name Delete = codes "DELETE"

abbrev pub kind_of : Resource → Data
kind_of r =
    object_of ((codes "group", string (row r).group) ∷ (codes "version", string (row r).version) ∷ (codes "kind", string (row r).kind) ∷ [])

abbrev pub resource_of : Resource → Data
resource_of r =
    object_of ((codes "group", string (row r).group) ∷ (codes "version", string (row r).version) ∷ (codes "resource", string (row r).plural) ∷ [])

-- `request`: what the write does, and to which object
abbrev pub request_of : Attempt → Data
request_of w = object_of (
    (codes "operation", string (operation_name w.operation))
    ∷ (codes "name", string w.key.name)
    ∷ (codes "namespace", string w.key.namespace)
    ∷ (codes "kind", kind_of w.key.resource)
    ∷ (codes "resource", resource_of w.key.resource)
    ∷ [])
