-- The binding that a document spells (Kubernetes, admissionregistration.k8s.io/v1: ValidatingAdmissionPolicyBinding).
use Rattle.std.specs.Prelude.{◌∷◌, [], codes, Option, Some, None, option_map}
use Rattle.serde_json.specs.Data.{Data}
use Rattle.serde_json.specs.Find.{get, as_str}
use Rattle.names.specs.Name.{is_name}
use Rattle.policy.specs.declared.binding.Action.{Action}
use Rattle.policy.specs.declared.binding.Action.TheVariants as action
use Rattle.policy.specs.declared.params.NotFound.{NotFound}
use Rattle.policy.specs.declared.params.NotFound.TheVariants as not_found
use Rattle.policy.specs.Forms.{given, provided, has_only, field, perhaps, optional, list_of, choice, spec_of, only}
use Rattle.policy.specs.MatchRules.{selector_of, match_rules_of, no_rules}
use Rattle.policy.specs.Spec.{Wanted, by_name, by_selector, ParamRef, Binding}

abbrev pub action_of : Data → Option Action
action_of = choice ((codes "Deny", action.Deny) ∷ (codes "Warn", action.Warn) ∷ [])

-- either a name or a selector, not both
abbrev pub wanted : Option Data → Option Data → Option Wanted
wanted None None = None
wanted (Some name) None = option_map by_name (as_str name)
wanted None (Some selector) = option_map by_selector (selector_of selector)
wanted (Some name) (Some selector) = None

abbrev pub wanted_of : Data → Option Wanted
wanted_of d = wanted (get (codes "name") d) (get (codes "selector") d)

abbrev pub not_found_of : Data → Option NotFound
not_found_of = choice ((codes "Allow", not_found.Allow) ∷ (codes "Deny", not_found.Deny) ∷ [])

-- a ParamRef
abbrev pub param_ref_of : Data → Option ParamRef
param_ref_of d =
    provided (has_only (codes "name" ∷ codes "selector" ∷ codes "namespace" ∷ codes "parameterNotFoundAction" ∷ []) d)
    (given (wanted_of d) (λ wanted.
    given (optional (codes "namespace") as_str d) (λ namespace.
    given (field (codes "parameterNotFoundAction") not_found_of d) (λ not_found.
    Some (record { wanted = wanted; namespace = namespace; not_found = not_found })))))

-- a ValidatingAdmissionPolicyBindingSpec
abbrev pub binding_spec_of : Data → Option Binding
binding_spec_of d =
    provided (has_only (codes "policyName" ∷ codes "validationActions" ∷ codes "matchResources" ∷ codes "paramRef" ∷ []) d)
    (given (field (codes "policyName") as_str d) (λ policy.
    provided (is_name policy)
    (given (field (codes "validationActions") (list_of action_of) d) (λ actions.
    given (only actions) (λ action.
    given (perhaps (codes "matchResources") match_rules_of no_rules d) (λ resources.
    given (optional (codes "paramRef") param_ref_of d) (λ param_ref.
    Some (record { policy = policy; action = action; resources = resources; param_ref = param_ref }))))))))

-- the binding, if the document has the form of one
abbrev pub binding_of : Data → Option Binding
binding_of d = spec_of binding_spec_of d
