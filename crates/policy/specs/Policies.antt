-- The policy that a document spells (Kubernetes, admissionregistration.k8s.io/v1: ValidatingAdmissionPolicy).
use Rattle.std.specs.Prelude.{◌∷◌, List, [], length, Bool, not, ◌&&◌, ◌==◌, map, codes, Option, Some}
use Rattle.std.specs.List.{list_all}
use Rattle.serde_json.specs.Data.{Data}
use Rattle.serde_json.specs.Find.{as_str}
use Rattle.names.specs.Resource.{with_kind}
use Rattle.names.specs.declared.resource.Resource.{Resource}
use Rattle.celtokens.specs.Word.{is_identifier}
use Rattle.policy.specs.Matching.{is_parameter}
use Rattle.policy.specs.Rules.{MatchRules}
use Rattle.policy.specs.declared.policy.FailurePolicy.{FailurePolicy}
use Rattle.policy.specs.declared.policy.FailurePolicy.TheVariants.{Fail, Ignore}
use Rattle.policy.specs.declared.validation.Reason.{Reason}
use Rattle.policy.specs.declared.validation.Reason.TheVariants.{Unauthorized, Forbidden, Invalid, RequestEntityTooLarge}
use Rattle.policy.specs.Forms.{Text, given, provided, has_only, field, perhaps, optional, list_of, filled_list_of, choice, spec_of, are_distinct}
use Rattle.policy.specs.MatchRules.{match_rules_of}
use Rattle.policy.specs.Spec.{NamedExpression, Policy}
use Rattle.policy.specs.Validation.{Validation}

-- ---- match conditions and variables

-- a MatchCondition or a Variable
abbrev pub named_of : Data → Option NamedExpression
named_of d =
    provided (has_only (codes "name" ∷ codes "expression" ∷ []) d)
    (given (field (codes "name") as_str d) (λ name.
    given (field (codes "expression") as_str d) (λ expression.
    Some (record { name = name; expression = expression }))))

abbrev pub names_of : List NamedExpression → List Text
names_of ns = map (λ n. n.name) ns

abbrev pub is_filled : Text → Bool
is_filled text = not (length text == 0)

-- their names are distinct and not empty
abbrev pub are_conditions : List NamedExpression → Bool
are_conditions ns = list_all is_filled (names_of ns) && are_distinct (names_of ns)

-- their names are distinct identifiers
abbrev pub are_variables : List NamedExpression → Bool
are_variables ns = list_all is_identifier (names_of ns) && are_distinct (names_of ns)

-- ---- validations

abbrev pub reason_of : Data → Option Reason
reason_of =
    choice ((codes "Unauthorized", Unauthorized) ∷ (codes "Forbidden", Forbidden) ∷ (codes "Invalid", Invalid)
    ∷ (codes "RequestEntityTooLarge", RequestEntityTooLarge) ∷ [])

-- a Validation
abbrev pub validation_of : Data → Option Validation
validation_of d =
    provided (has_only (codes "expression" ∷ codes "message" ∷ codes "messageExpression" ∷ codes "reason" ∷ []) d)
    (given (field (codes "expression") as_str d) (λ expression.
    given (optional (codes "message") as_str d) (λ message.
    given (optional (codes "messageExpression") as_str d) (λ message_expression.
    given (perhaps (codes "reason") reason_of Invalid d) (λ reason.
    Some (record { expression = expression; message = message; message_expression = message_expression; reason = reason }))))))

-- ---- policies

-- a ParamKind, whose objects may be parameters
abbrev pub param_kind_of : Data → Option Resource
param_kind_of d =
    provided (has_only (codes "apiVersion" ∷ codes "kind" ∷ []) d)
    (given (field (codes "apiVersion") as_str d) (λ version.
    given (field (codes "kind") as_str d) (λ kind.
    given (with_kind version kind) (λ resource.
    provided (is_parameter resource) (Some resource)))))

abbrev pub failure_policy_of : Data → Option FailurePolicy
failure_policy_of = choice ((codes "Fail", Fail) ∷ (codes "Ignore", Ignore) ∷ [])

abbrev pub has_rules : MatchRules → Bool
has_rules m = not (length m.rules == 0)

abbrev pub policy_members : List Text
policy_members =
    codes "failurePolicy" ∷ codes "paramKind" ∷ codes "matchConstraints" ∷ codes "matchConditions" ∷ codes "variables" ∷ codes "validations" ∷ []

-- a ValidatingAdmissionPolicySpec
abbrev pub policy_spec_of : Data → Option Policy
policy_spec_of d =
    provided (has_only policy_members d)
    (given (perhaps (codes "failurePolicy") failure_policy_of Fail d) (λ failure_policy.
    given (optional (codes "paramKind") param_kind_of d) (λ param_kind.
    given (field (codes "matchConstraints") match_rules_of d) (λ constraints.
    provided (has_rules constraints)
    (given (perhaps (codes "matchConditions") (list_of named_of) [] d) (λ conditions.
    provided (are_conditions conditions)
    (given (perhaps (codes "variables") (list_of named_of) [] d) (λ variables.
    provided (are_variables variables)
    (given (field (codes "validations") (filled_list_of validation_of) d) (λ validations.
    Some (record {
      failure_policy = failure_policy;
      param_kind = param_kind;
      constraints = constraints;
      conditions = conditions;
      variables = variables;
      validations = validations;
    })))))))))))

-- the policy, if the document has the form of one
abbrev pub policy_of : Data → Option Policy
policy_of d = spec_of policy_spec_of d
