-- Which writes rules match (Kubernetes, ValidatingAdmissionPolicy: MatchResources, NamedRuleWithOperations).
use Rattle.std.specs.Prelude.{ℕ, List, length, Bool, true, false, not, ◌&&◌, ◌||◌, ◌==◌, Option, unwrap_or}
use Rattle.serde_json.specs.Data.{Data, null}
use Rattle.std.specs.List.{list_any}
use Rattle.std.specs.Option.{option_map_or}
use Rattle.std.specs.Str.{bytes_eq}
use Rattle.names.specs.Key.{Key}
use Rattle.names.specs.Resource.{row}
use Rattle.names.specs.declared.resource.Resource.{Resource}
use Rattle.names.specs.declared.resource.Resource.TheVariants.{ConfigMap, Node, Pod, Service, Deployment, ValidatingAdmissionPolicy, ValidatingAdmissionPolicyBinding, Namespace}
use Rattle.names.specs.declared.resource.Scope.{Scope}
use Rattle.names.specs.declared.resource.Scope.TheVariants as of_resource
use Rattle.policy.specs.declared.match_rules.Operation.{Operation}
use Rattle.policy.specs.declared.match_rules.Operation.TheVariants.{Create, Update, Delete}
use Rattle.policy.specs.declared.match_rules.OperationEntry.{OperationEntry}
use Rattle.policy.specs.declared.match_rules.OperationEntry.TheVariants.{Any, Exactly}
use Rattle.policy.specs.declared.match_rules.RuleScope.{RuleScope}
use Rattle.policy.specs.declared.match_rules.RuleScope.TheVariants.{Cluster, Namespaced, Every}
use Rattle.documents.specs.Requirement.{Requirement}
use Rattle.policy.specs.Rules.{RuleEntry, any, exactly, Rule, MatchRules, Attempt}
use Rattle.documents.specs.Selecting.{is_among, selects}

-- ---- the parts of a rule

abbrev pub are_same : Operation → Operation → Bool
are_same Create Create = true
are_same Update Update = true
are_same Delete Delete = true
are_same operation other = false

-- the entry is this operation, or `*`
abbrev pub is_operation : Operation → OperationEntry → Bool
is_operation operation Any = true
is_operation operation (Exactly wanted) = are_same operation wanted

-- the entry is this text, or `*`
abbrev pub is_text : List ℕ → RuleEntry → Bool
is_text text any = true
is_text text (exactly wanted) = bytes_eq text wanted

-- the list holds this operation, or `*`
abbrev pub holds_operation : List OperationEntry → Operation → Bool
holds_operation entries operation = list_any (is_operation operation) entries

-- the list holds this text, or `*`
abbrev pub holds_text : List RuleEntry → List ℕ → Bool
holds_text entries text = list_any (is_text text) entries

-- the name is one of these, or there are none
abbrev pub allows_name : (names : List (List ℕ)) → (name : List ℕ) → Bool
allows_name names name = length names == 0 || is_among names name

abbrev pub fits : RuleScope → Scope → Bool
fits Every scope = true
fits Cluster of_resource.Cluster = true
fits Cluster of_resource.Namespaced = false
fits Namespaced of_resource.Cluster = false
fits Namespaced of_resource.Namespaced = true

-- ---- rules

-- the rule is for this resource
abbrev pub has_resource : Rule → Resource → Bool
has_resource r resource =
    holds_text r.groups (row resource).group && holds_text r.versions (row resource).version && holds_text r.resources (row resource).plural
    && fits r.scope (row resource).scope

-- the rule is for the object with this key
abbrev pub has_object : Rule → Key → Bool
has_object r key = has_resource r key.resource && allows_name r.names key.name

-- the rule is for what the write does, and for its object
abbrev pub meets_rule : Attempt → Rule → Bool
meets_rule w r = holds_operation r.operations w.operation && has_object r w.key

-- the object, or the one before the write, is there and selected
abbrev pub selects_either : List Requirement → Attempt → Bool
selects_either requirements w = option_map_or (selects requirements) w.object false || option_map_or (selects requirements) w.old_object false

-- the labels of the namespace that an object stands in are looked at, and a namespace that is not there has none; of a cluster-scoped object nothing is asked
abbrev pub selects_home : List Requirement → Scope → Option Data → Bool
selects_home requirements of_resource.Namespaced home = selects requirements (unwrap_or home null)
selects_home requirements of_resource.Cluster home = true

-- of a Namespace its own labels are, as it is to be stored, or as it was shown where it is deleted
abbrev pub selects_namespace : List Requirement → Resource → Attempt → Bool
selects_namespace requirements Namespace w = selects requirements (unwrap_or w.object (unwrap_or w.old_object null))
selects_namespace requirements r w = selects_home requirements (row r).scope w.namespace

-- no rule excludes the write, and the selectors take it: where there is none of namespaces, every namespace is taken
abbrev pub takes : MatchRules → Attempt → Bool
takes m w =
    not (list_any (meets_rule w) m.excluded) && selects_either m.objects w
    && option_map_or (λ requirements. selects_namespace requirements w.key.resource w) m.namespaces true

-- what a policy is for: it says so by some rule
abbrev pub is_constrained : MatchRules → Attempt → Bool
is_constrained m w = list_any (meets_rule w) m.rules && takes m w

-- what a binding is for: it says so by some rule, or has no rules at all
abbrev pub is_bound : MatchRules → Attempt → Bool
is_bound m w = (length m.rules == 0 || list_any (meets_rule w) m.rules) && takes m w

-- no policy is asked for writes to policies and bindings
abbrev pub is_guarded : Resource → Bool
is_guarded ConfigMap = true
is_guarded Node = true
is_guarded Pod = true
is_guarded Service = true
is_guarded Deployment = true
is_guarded ValidatingAdmissionPolicy = false
is_guarded ValidatingAdmissionPolicyBinding = false
is_guarded Namespace = true

-- policies, bindings and namespaces are no parameters
abbrev pub is_parameter : Resource → Bool
is_parameter ConfigMap = true
is_parameter Node = true
is_parameter Pod = true
is_parameter Service = true
is_parameter Deployment = true
is_parameter ValidatingAdmissionPolicy = false
is_parameter ValidatingAdmissionPolicyBinding = false
is_parameter Namespace = false

-- a policy with these constraints, bound for these resources, is asked for the write
abbrev pub is_matched : (constraints resources : MatchRules) → Attempt → Bool
is_matched constraints resources w = is_guarded w.key.resource && is_constrained constraints w && is_bound resources w
