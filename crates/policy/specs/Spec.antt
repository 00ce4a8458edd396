-- What policies and bindings ask for (Kubernetes, admissionregistration.k8s.io/v1: ValidatingAdmissionPolicySpec and ValidatingAdmissionPolicyBindingSpec).
use Rattle.std.specs.Prelude.{List, Option, map, option_map, string_bytes}
use Rattle.names.specs.declared.resource.Resource.{Resource}
use Rattle.documents.specs.Requirement.{Requirement, requirement_seen}
use Rattle.policy.specs.Rules.{MatchRules, match_rules_seen}
use Rattle.policy.specs.declared.binding.Action.{Action}
use Rattle.policy.specs.declared.binding.Binding as code_binding
use Rattle.policy.specs.declared.params.NotFound.{NotFound}
use Rattle.policy.specs.declared.params.ParamRef as code_param_ref
use Rattle.policy.specs.declared.params.Wanted as code_wanted
use Rattle.policy.specs.declared.params.Wanted.TheVariants.{ByName, BySelector}
use Rattle.policy.specs.declared.policy.FailurePolicy.{FailurePolicy}
use Rattle.policy.specs.declared.policy.Policy as code_policy
use Rattle.policy.specs.declared.named.NamedExpression as code_named
use Rattle.policy.specs.Validation.{Validation, validation_seen}
use Rattle.policy.specs.Forms.{Text}

-- ---- policies

-- a match condition or a variable
pub record NamedExpression : Type 0 where
  pub name : Text
  pub expression : Text

pub record Policy : Type 0 where
  pub failure_policy : FailurePolicy
  -- of which resource the parameters are, if there are any
  pub param_kind : Option Resource
  pub constraints : MatchRules
  pub conditions : List NamedExpression
  pub variables : List NamedExpression
  pub validations : List Validation

-- ---- bindings

-- the objects that are parameters
pub data Wanted : Type 0 where
  by_name : (name : Text) → Wanted
  by_selector : (requirements : List Requirement) → Wanted

pub record ParamRef : Type 0 where
  pub wanted : Wanted
  pub namespace : Option Text
  -- what becomes of a write where no parameter is found
  pub not_found : NotFound

pub record Binding : Type 0 where
  -- the policy's name
  pub policy : Text
  pub action : Action
  pub resources : MatchRules
  pub param_ref : Option ParamRef

-- ---- what the code's types stand for

abbrev pub named_seen : code_named.NamedExpression → NamedExpression
named_seen n = record { name = string_bytes n.name; expression = string_bytes n.expression }

abbrev pub policy_seen : code_policy.Policy → Policy
policy_seen p = record {
  failure_policy = p.failure_policy;
  param_kind = p.param_kind;
  constraints = match_rules_seen p.constraints;
  conditions = map named_seen p.conditions.items;
  variables = map named_seen p.variables.items;
  validations = map validation_seen p.validations.items;
}

abbrev pub wanted_seen : code_wanted.Wanted → Wanted
wanted_seen (ByName name) = by_name (string_bytes name)
wanted_seen (BySelector requirements) = by_selector (map requirement_seen requirements.items)

abbrev pub param_ref_seen : code_param_ref.ParamRef → ParamRef
param_ref_seen r = record { wanted = wanted_seen r.wanted; namespace = option_map string_bytes r.namespace; not_found = r.not_found }

abbrev pub binding_seen : code_binding.Binding → Binding
binding_seen b = record {
  policy = string_bytes b.policy;
  action = b.action;
  resources = match_rules_seen b.resources;
  param_ref = option_map param_ref_seen b.param_ref;
}
