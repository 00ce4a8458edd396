-- The parameters of a policy, as a binding asks for them (Kubernetes, "Validating Admission Policy", "Parameter resources").
use Rattle.std.specs.Prelude.{◌∷◌, List, [], map, Option, Some, None}
use Rattle.serde_json.specs.Data.{Data}
use Rattle.names.specs.Resource.{row}
use Rattle.names.specs.declared.resource.Resource.{Resource}
use Rattle.names.specs.declared.resource.Scope.{Scope}
use Rattle.names.specs.declared.resource.Scope.TheVariants.{Namespaced, Cluster}
use Rattle.policy.specs.Rules.{Attempt}
use Rattle.policy.specs.Forms.{Text}
use Rattle.policy.specs.Spec.{Wanted, ParamRef}
use Rattle.verdict.specs.Listed.{Shown, listed, wanted_of}

pub data Parameters : Type 0 where
  -- those found, of which one may be that there is none
  found : (parameters : List (Option Data)) → Parameters
  misconfigured : Parameters
  not_found : Parameters

-- Where parameters are looked for: the namespace that the binding names, or else that of the write; none where they are cluster-scoped. A namespace for
-- what has none, or none for what needs one, is no place.
abbrev pub namespace_of : (parameters : Scope) → (asked : Option Text) → (write : Scope) → (namespace : Text) → Option Text
namespace_of Cluster None write namespace = Some []
namespace_of Cluster (Some asked) write namespace = None
namespace_of Namespaced (Some asked) write namespace = Some asked
namespace_of Namespaced None Namespaced namespace = Some namespace
namespace_of Namespaced None Cluster namespace = None

abbrev pub found_or_not : List (Option Data) → Parameters
found_or_not [] = not_found
found_or_not (d ∷ ds) = found (d ∷ ds)

abbrev pub looked_up : Shown → Resource → Wanted → (namespace : Option Text) → Parameters
looked_up objects r wanted None = misconfigured
looked_up objects r wanted (Some namespace) = found_or_not (map Some (wanted_of wanted (listed r (Some namespace) objects)))

-- without a kind of parameters, or where the binding asks for none, there is one evaluation without a parameter
abbrev pub parameters : Shown → (kind : Option Resource) → Option ParamRef → Attempt → Parameters
parameters objects None ref w = found (None ∷ [])
parameters objects (Some r) None w = found (None ∷ [])
parameters objects (Some r) (Some ref) w =
    looked_up objects r ref.wanted (namespace_of (row r).scope ref.namespace (row w.key.resource).scope w.key.namespace)
