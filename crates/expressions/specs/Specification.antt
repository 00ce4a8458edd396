-- What stands in the `spec` of an object: those of policies and bindings have a form, and the expressions of a policy spell trees.
use Rattle.std.specs.Prelude.{◌≡◌, ◌≢◌, ℕ, ◌+◌, ◌*◌, ◌^◌, ◌≤◌, Bool, ◌||◌, List, [], length, if◌then◌else◌, Option, Some, None, option_and_then, IsTrue, is_some, is_none, string_bytes}
use Rattle.std.specs.Option.{option_map_or}
use Rattle.serde_json.specs.Data.{Data}
use Rattle.celtree.specs.Tree.{Expr}
use Rattle.jsondoc.specs.Json.{text}
use Rattle.names.specs.declared.format.Format.{Format}
use Rattle.names.specs.Format.{has_namespaces}
use Rattle.names.specs.declared.resource.Resource.{Resource}
use Rattle.names.specs.declared.resource.Resource.TheVariants.{ConfigMap, Node, Pod, Service, Deployment, ValidatingAdmissionPolicy, ValidatingAdmissionPolicyBinding, Namespace}
use Rattle.plancode.specs.Plans.{Judged}
use Rattle.plancode.specs.PlanList.{list_bytes, IsListFor}
use Rattle.policy.specs.Bindings.{binding_of}
use Rattle.policy.specs.Forms.{Text}
use Rattle.policy.specs.Policies.{policy_of}
use Rattle.policy.specs.Rules.{MatchRules}
use Rattle.policy.specs.Spec.{Policy, Binding}
use Rattle.expressions.specs.Expressions.{sources}
use Rattle.expressions.specs.Plans.{plans_of}
use Rattle.expressions.specs.Typed.{AreTyped, AreSpelled, IsFirstBad}
use Rattle.expressions.specs.Places.{places_of, policy_in}
use Rattle.expressions.specs.declared.specification.Specification as code
use Rattle.expressions.specs.declared.specification.Specification.TheVariants as specification
use Rattle.expressions.specs.declared.stored.StoredPlans as stored
use Rattle.expressions.specs.declared.stored.StoredPlans.TheVariants as stored_plans

-- what stands there, with each expression of a policy as its tree, or compiled
pub data Specification (T : Type 0) : Type 0 where
  sound : (expressions : List T) → Specification T
  bad_spec : Specification T
  -- the first expression that is bad
  bad_expression : Text → Specification T

-- ---- with trees

-- match rules may stand in an object where they have no selector of namespaces, or namespaces are objects
abbrev pub may_stand : Format → MatchRules → Bool
may_stand f m = has_namespaces f || is_none m.namespaces

-- the policy, and the binding, that a document spells and that may stand
abbrev pub policy_for : Format → Data → Option Policy
policy_for f d = option_and_then (λ p. if may_stand f p.constraints then Some p else None) (policy_in d)

abbrev pub binding_for : Format → Data → Option Binding
binding_for f d = option_and_then (λ b. if may_stand f b.resources then Some b else None) (binding_of d)

abbrev pub OfPolicy : Format → Data → Specification Expr → Type 0
OfPolicy f d (sound trees) = (p : Policy) × (policy_for f d ≡ Some p) × AreTyped f p [] (sources p) trees
OfPolicy f d bad_spec = policy_for f d ≡ None
OfPolicy f d (bad_expression text) = (p : Policy) × (policy_for f d ≡ Some p) × IsFirstBad f p [] (sources p) text

abbrev pub OfBinding : Format → Data → Specification Expr → Type 0
OfBinding f d (sound trees) = IsTrue (is_some (binding_for f d)) × (trees ≡ [])
OfBinding f d bad_spec = binding_for f d ≡ None
OfBinding f d (bad_expression text) = ⊥

-- this stands in the object of a resource, as a format has it; those of other resources have no form
abbrev pub IsSpecification : Format → Resource → Data → Specification Expr → Type 0
IsSpecification f ValidatingAdmissionPolicy d s = OfPolicy f d s
IsSpecification f ValidatingAdmissionPolicyBinding d s = OfBinding f d s
IsSpecification f ConfigMap d s = s ≡ sound []
IsSpecification f Node d s = s ≡ sound []
IsSpecification f Pod d s = s ≡ sound []
IsSpecification f Service d s = s ≡ sound []
IsSpecification f Deployment d s = s ≡ sound []
IsSpecification f Namespace d s = s ≡ sound []

-- the expressions of the object spell these trees, whatever the format; those of other resources have none
abbrev pub Spells : Resource → Data → List Expr → Type 0
Spells ValidatingAdmissionPolicy d trees = (p : Policy) × (policy_in d ≡ Some p) × AreSpelled (sources p) trees
Spells ValidatingAdmissionPolicyBinding d trees = trees ≡ []
Spells ConfigMap d trees = trees ≡ []
Spells Node d trees = trees ≡ []
Spells Pod d trees = trees ≡ []
Spells Service d trees = trees ≡ []
Spells Deployment d trees = trees ≡ []
Spells Namespace d trees = trees ≡ []

-- ---- compiled

-- the plans of the trees of a document's expressions
abbrev pub plans_in : Data → List Expr → List Judged
plans_in d trees = option_map_or (λ p. plans_of p trees) (policy_of d) []

abbrev pub compiled : Data → Specification Expr → Specification Judged
compiled d (sound trees) = sound (plans_in d trees)
compiled d bad_spec = bad_spec
compiled d (bad_expression text) = bad_expression text

-- It is what stands in the object, compiled. Where the expressions spell trees, it is these that stand there, and they spell no others.
pub record IsCompiled (f : Format) (r : Resource) (d : Data) (s : Specification Judged) : Type 0 where
  pub meant : Specification Expr
  pub stands : IsSpecification f r d meant
  pub plans : s ≡ compiled d meant
  pub alone : (trees : List Expr) → IsSpecification f r d (sound trees) → meant ≡ sound trees
  pub spelled : (trees other : List Expr) → meant ≡ sound trees → Spells r d other → other ≡ trees

-- the list of the plans has at most 22 bytes for each byte of the document's text, and two for their number
abbrev pub AreShort : Data → Specification Judged → Type 0
AreShort d (sound plans) = length (list_bytes plans) ≤ 2 + 22 * length (text d)
AreShort d bad_spec = Unit {0}
AreShort d (bad_expression t) = Unit {0}

abbrev pub specification_seen : code.Specification → Specification Judged
specification_seen (specification.Sound plans) = sound plans.items
specification_seen specification.BadSpec = bad_spec
specification_seen (specification.BadExpression text) = bad_expression (string_bytes text)

-- ---- stored

-- The plans of an object: these, or bytes that are those of no plans that it may have.
pub data Plans : Type 0 where
  these : List Judged → Plans
  spoiled : (bytes : List ℕ) → Plans

abbrev pub policy_bytes : Plans → List ℕ
policy_bytes (these plans) = list_bytes plans
policy_bytes (spoiled bytes) = bytes

-- the bytes of an object's plans: none but for a policy
abbrev pub plans_bytes : Resource → Plans → List ℕ
plans_bytes ValidatingAdmissionPolicy plans = policy_bytes plans
plans_bytes ValidatingAdmissionPolicyBinding plans = []
plans_bytes ConfigMap plans = []
plans_bytes Node plans = []
plans_bytes Pod plans = []
plans_bytes Service plans = []
plans_bytes Deployment plans = []
plans_bytes Namespace plans = []

-- a policy may have these plans, one for each expression
abbrev pub FitsPolicy : Data → List Judged → Type 0
FitsPolicy d plans = (p : Policy) × (policy_in d ≡ Some p) × IsListFor (places_of p) plans

abbrev pub ArePolicyPlans : Data → Plans → Type 0
ArePolicyPlans d (these plans) = FitsPolicy d plans
ArePolicyPlans d (spoiled bytes) = (plans : List Judged) → FitsPolicy d plans → list_bytes plans ≢ bytes

-- plans that an object may have: a policy those that fit it, or spoiled ones; others none
abbrev pub MayHavePlans : Resource → Data → Plans → Type 0
MayHavePlans ValidatingAdmissionPolicy d plans = ArePolicyPlans d plans
MayHavePlans ValidatingAdmissionPolicyBinding d plans = plans ≡ these []
MayHavePlans ConfigMap d plans = plans ≡ these []
MayHavePlans Node d plans = plans ≡ these []
MayHavePlans Pod d plans = plans ≡ these []
MayHavePlans Service d plans = plans ≡ these []
MayHavePlans Deployment d plans = plans ≡ these []
MayHavePlans Namespace d plans = plans ≡ these []

abbrev pub plans_seen : stored.StoredPlans → Plans
plans_seen (stored_plans.Plans plans) = these plans.items
plans_seen (stored_plans.Spoiled bytes) = spoiled bytes.items

-- sound plans may be held, where the document's text has at most 2^24 bytes
abbrev pub MayBeHeld : Resource → Data → Specification Judged → Type 0
MayBeHeld r d (sound plans) = length (text d) ≤ 2 ^ 24 → MayHavePlans r d (these plans)
MayBeHeld r d bad_spec = Unit {0}
MayBeHeld r d (bad_expression t) = Unit {0}
