-- What stands in a document, as it is read.
use Rattle.std.proofs.Common.{◌≡◌, subst, ℕ, ◌+◌, ◌≤◌, ◌*◌, List, length, arith}
use Rattle.serde_json.specs.Data.{Data}
use Rattle.jsondoc.specs.Json.{text}
use Rattle.celtree.specs.Tree.{Expr}
use Rattle.names.specs.declared.format.Format.{Format}
use Rattle.names.specs.declared.resource.Resource.{Resource}
use Rattle.names.specs.declared.resource.Resource.TheVariants.{ConfigMap, Node, Pod, Service, Deployment, ValidatingAdmissionPolicy, ValidatingAdmissionPolicyBinding, Namespace}
use Rattle.documents.specs.Document.{Document}
use Rattle.plancode.specs.Plans.{Judged}
use Rattle.plancode.specs.PlanList.{list_bytes}
use Rattle.expressions.specs.Specification.{Specification, IsCompiled, AreShort, MayBeHeld, compiled, these, plans_in, plans_bytes}
use Rattle.expressions.specs.Specification as stands
use Rattle.apicore.specs.Read.{AreHeld, IsRead}

few_bytes : (r : Resource) (d : Data) (plans : List Judged) → length (list_bytes plans) ≤ 2 + 22 * length (text d) → length (plans_bytes r (these plans)) ≤ 2 + 22 * length (text d)
few_bytes ValidatingAdmissionPolicy d plans few = few
few_bytes ValidatingAdmissionPolicyBinding d plans few = omega arith
few_bytes ConfigMap d plans few = omega arith
few_bytes Node d plans few = omega arith
few_bytes Pod d plans few = omega arith
few_bytes Service d plans few = omega arith
few_bytes Deployment d plans few = omega arith
few_bytes Namespace d plans few = omega arith

held_of : (r : Resource) (d : Data) (s : Specification Expr) → AreShort d (compiled d s) → MayBeHeld r d (compiled d s) → AreHeld r d s
held_of r d (stands.sound trees) short held = (held, few_bytes r d (plans_in d trees) short)
held_of r d stands.bad_spec short held = tt
held_of r d (stands.bad_expression t) short held = tt

pub read_of : (f : Format) (r : Resource) (d : Data) (found : Specification Judged) (is : IsCompiled f r d found) → AreShort d found → MayBeHeld r d found → IsRead f r d is.meant
read_of f r d found is short held = record {
  stands = is.stands;
  alone = is.spelled;
  held = held_of r d is.meant (subst (AreShort d) is.plans short) (subst (MayBeHeld r d) is.plans held);
}

pub found_of : (f : Format) (r : Resource) (d : Data) (found : Specification Judged) → IsCompiled f r d found → AreShort d found → MayBeHeld r d found
    → (s : Specification Expr) × IsRead f r d s × (found ≡ compiled d s)
found_of f r d found is short held = (is.meant, read_of f r d found is short held, is.plans)

-- ---- what was found is what stands there

-- what the code found is the compiled form of this
abbrev Of : Document → Specification Judged → Specification Expr → Type 0
Of d found s = found ≡ compiled d.json s

module _ (Steps : Specification Expr → Type 0) (d : Document) where
  pub sound_found : (plans : List Judged) (s : Specification Expr) → Of d (stands.sound plans) s → ((trees : List Expr) → plans ≡ plans_in d.json trees → Steps (stands.sound trees)) → Steps s
  sound_found plans (stands.sound trees) is to = let same : plans ≡ plans_in d.json trees = cc in to trees same
  sound_found plans stands.bad_spec is to = absurd (let never : ◌≡◌ {A = Specification Judged} (stands.sound plans) stands.bad_spec = is in cc)
  sound_found plans (stands.bad_expression t) is to = absurd (let never : ◌≡◌ {A = Specification Judged} (stands.sound plans) (stands.bad_expression t) = is in cc)

  pub bad_spec_found : (s : Specification Expr) → Of d stands.bad_spec s → Steps stands.bad_spec → Steps s
  bad_spec_found (stands.sound trees) is to = absurd (let never : ◌≡◌ {A = Specification Judged} stands.bad_spec (stands.sound (plans_in d.json trees)) = is in cc)
  bad_spec_found stands.bad_spec is to = to
  bad_spec_found (stands.bad_expression t) is to = absurd (let never : ◌≡◌ {A = Specification Judged} stands.bad_spec (stands.bad_expression t) = is in cc)

  pub bad_expression_found : (t : List ℕ) (s : Specification Expr) → Of d (stands.bad_expression t) s → Steps (stands.bad_expression t) → Steps s
  bad_expression_found t (stands.sound trees) is to = absurd (let never : ◌≡◌ {A = Specification Judged} (stands.bad_expression t) (stands.sound (plans_in d.json trees)) = is in cc)
  bad_expression_found t stands.bad_spec is to = absurd (let never : ◌≡◌ {A = Specification Judged} (stands.bad_expression t) stands.bad_spec = is in cc)
  bad_expression_found t (stands.bad_expression u) is to = let same : t ≡ u = cc in subst (λ x. Steps (stands.bad_expression x)) same to
