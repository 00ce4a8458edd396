-- A binding names its policy by a well-formed name.
use Rattle.std.proofs.Common.{◌≡◌, ◌∷◌, List, [], Bool, true, false, Option, Some, None, refl, sym, subst, IsTrue, codes}
use Rattle.std.specs.Prelude.{IfSome}
use Rattle.serde_json.specs.Data.{Data}
use Rattle.serde_json.specs.Find.{get, as_str}
use Rattle.names.specs.Name.{is_name}
use Rattle.policy.specs.Rules.{MatchRules}
use Rattle.policy.specs.declared.binding.Action.{Action}
use Rattle.policy.specs.Forms.{Text, given, provided, has_only, field, perhaps, optional, list_of, only}
use Rattle.policy.specs.MatchRules.{match_rules_of, no_rules}
use Rattle.policy.specs.Bindings.{action_of, param_ref_of, binding_spec_of, binding_of}
use Rattle.policy.specs.Spec.{ParamRef, Binding}

abbrev IsNamed : Option Binding → Type 0
IsNamed o = IfSome o (λ b. IsTrue (is_name b.policy))

with_action : (policy : Text) → is_name policy ≡ true → (action : Option Action) (resources : Option MatchRules) (param_ref : Option (Option ParamRef))
    → IsNamed (given action (λ action. given resources (λ resources. given param_ref (λ param_ref.
    Some (record { policy = policy; action = action; resources = resources; param_ref = param_ref })))))
with_action policy named None resources param_ref = tt
with_action policy named (Some action) None param_ref = tt
with_action policy named (Some action) (Some resources) None = tt
with_action policy named (Some action) (Some resources) (Some param_ref) = named

with_name : (policy : Text) → is_name policy ≡ true → (actions : Option (List Action)) (resources : Option MatchRules) (param_ref : Option (Option ParamRef))
    → IsNamed (given actions (λ actions. given (only actions) (λ action. given resources (λ resources. given param_ref (λ param_ref.
    Some (record { policy = policy; action = action; resources = resources; param_ref = param_ref }))))))
with_name policy named None resources param_ref = tt
with_name policy named (Some actions) resources param_ref = with_action policy named (only actions) resources param_ref

with_members : (known : Bool) (policy : Option Text) (actions : Option (List Action)) (resources : Option MatchRules) (param_ref : Option (Option ParamRef))
    → IsNamed (provided known (given policy (λ policy. provided (is_name policy) (given actions (λ actions. given (only actions) (λ action. given resources (λ resources. given param_ref (λ param_ref.
    Some (record { policy = policy; action = action; resources = resources; param_ref = param_ref })))))))))
with_members false policy actions resources param_ref = tt
with_members true None actions resources param_ref = tt
with_members true (Some policy) actions resources param_ref =
    elim (is_name policy) as (λ b. is_name policy ≡ b → IsNamed (provided b (given actions (λ actions. given (only actions) (λ action. given resources (λ resources. given param_ref (λ param_ref.
    Some (record { policy = policy; action = action; resources = resources; param_ref = param_ref })))))))) [
      | true ↦ λ e. with_name policy e actions resources param_ref
      | false ↦ λ e. tt
    ] refl

spec_named : (s : Data) → IsNamed (binding_spec_of s)
spec_named s =
    with_members (has_only (codes "policyName" ∷ codes "validationActions" ∷ codes "matchResources" ∷ codes "paramRef" ∷ []) s)
    (field (codes "policyName") as_str s) (field (codes "validationActions") (list_of action_of) s)
    (perhaps (codes "matchResources") match_rules_of no_rules s) (optional (codes "paramRef") param_ref_of s)

all_named : (d : Data) → IsNamed (binding_of d)
all_named d =
    elim (has_only (codes "apiVersion" ∷ codes "kind" ∷ codes "metadata" ∷ codes "spec" ∷ []) d) as (λ b. IsNamed (provided b (field (codes "spec") binding_spec_of d))) [
      | true ↦ elim (get (codes "spec") d) as (λ o. IsNamed (given o binding_spec_of)) [ None ↦ tt | Some s ↦ spec_named s ]
      | false ↦ tt
    ]

pub is_named : (d : Data) (b : Binding) → Some b ≡ binding_of d → IsTrue (is_name b.policy)
is_named d b is = subst (λ (o : Option Binding). IsNamed o) (sym is) (all_named d)
