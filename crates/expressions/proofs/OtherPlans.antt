-- Bytes of no plans that an object may have.
use Rattle.std.proofs.Common.{◌≡◌, refl, ℕ, List, []}
use Rattle.std.specs.Prelude.{◌≢◌}
use Rattle.serde_json.specs.Data.{Data}
use Rattle.names.specs.declared.resource.Resource.{Resource}
use Rattle.names.specs.declared.resource.Resource.TheVariants.{ConfigMap, Node, Pod, Service, Deployment, ValidatingAdmissionPolicy, ValidatingAdmissionPolicyBinding, Namespace}
use Rattle.expressions.specs.Specification.{Plans, these, spoiled, plans_bytes, MayHavePlans}

abbrev pub AreOther : Resource → Data → List ℕ → Type 0
AreOther r d bytes = (plans : Plans) → MayHavePlans r d plans → plans_bytes r plans ≢ bytes

-- a policy may have any, as they are
pub policy_has_some : (d : Data) (bytes : List ℕ) → AreOther ValidatingAdmissionPolicy d bytes → ⊥
policy_has_some d bytes other = other (spoiled bytes) (λ plans fits. other (these plans) fits) refl

-- other objects have none
pub others_have_none : (r : Resource) (d : Data) (bytes : List ℕ) → (r ≡ ValidatingAdmissionPolicy → ⊥) → AreOther r d bytes → [] ≢ bytes
others_have_none ConfigMap d bytes not other = other (these []) refl
others_have_none Node d bytes not other = other (these []) refl
others_have_none Pod d bytes not other = other (these []) refl
others_have_none Service d bytes not other = other (these []) refl
others_have_none Deployment d bytes not other = other (these []) refl
others_have_none ValidatingAdmissionPolicy d bytes not other = absurd (not refl)
others_have_none ValidatingAdmissionPolicyBinding d bytes not other = other (these []) refl
others_have_none Namespace d bytes not other = other (these []) refl
