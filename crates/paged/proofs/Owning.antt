-- What lies in pages has its own plans, which are none.
use Rattle.std.specs.Prelude.{◌≡◌, true, false, not, List, [], ◌∷◌, map}
use Rattle.std.proofs.Common.{refl, sym, subst, cond}
use Rattle.std.specs.List.{AllByRecursion}
use Rattle.serde_json.specs.Data.{Data}
use Rattle.device.specs.Disk.{Disk}
use Rattle.names.specs.declared.format.Format.{Format}
use Rattle.names.specs.declared.resource.Resource.{Resource}
use Rattle.names.specs.declared.resource.Resource.TheVariants.{ConfigMap, Node, Pod, Service, Deployment, ValidatingAdmissionPolicy, ValidatingAdmissionPolicyBinding, Namespace}
use Rattle.names.specs.Key.{Key}
use Rattle.histories.specs.declared.stored.Stored.{Stored}
use Rattle.expressions.specs.Specification.{IsSpecification, sound, Plans, these, plans_in, plans_bytes}
use Rattle.snapshots.specs.declared.cached_object.CachedObject.{CachedObject}
use Rattle.snapshots.specs.Whole.{whole}
use Rattle.snapshots.specs.Base.{not_held}
use Rattle.decoded.specs.Decoded.{Decoded}
use Rattle.recovery.specs.Compiled.{HasOwnPlans}
use Rattle.paged.specs.declared.without_plans.WithoutPlans.{WithoutPlans}
use Rattle.paged.specs.declared.state.Paged.{Paged}
use Rattle.snapshots.specs.HandedOn.{AllLie, LieWithoutPlans}
use Rattle.paged.specs.Lying.{is_rule, made_bare, held_bare, lies}
use Rattle.paged.specs.Paged.{Below}

no_form : (f : Format) (r : Resource) (d : Data) → not (is_rule r) ≡ true → IsSpecification f r d (sound [])
no_form f ConfigMap d lies = refl
no_form f Node d lies = refl
no_form f Pod d lies = refl
no_form f Service d lies = refl
no_form f Deployment d lies = refl
no_form f Namespace d lies = refl
no_form f ValidatingAdmissionPolicy d lies = cc
no_form f ValidatingAdmissionPolicyBinding d lies = cc

no_bytes : (r : Resource) (plans other : Plans) → not (is_rule r) ≡ true → plans_bytes r plans ≡ plans_bytes r other
no_bytes ConfigMap plans other lies = refl
no_bytes Node plans other lies = refl
no_bytes Pod plans other lies = refl
no_bytes Service plans other lies = refl
no_bytes Deployment plans other lies = refl
no_bytes Namespace plans other lies = refl
no_bytes ValidatingAdmissionPolicy plans other lies = cc
no_bytes ValidatingAdmissionPolicyBinding plans other lies = cc

each_own : (f : Format) (bare : WithoutPlans) (os : List (Key × CachedObject)) → AllByRecursion (HasOwnPlans f) (map (whole (made_bare bare)) (not_held (held_bare bare) os))
each_own f bare [] = tt
each_own f bare (o ∷ os) =
    let rest : List (Key × CachedObject) = not_held (held_bare bare) os in
    elim (not (is_rule o.0.resource))
    as (λ b. not (is_rule o.0.resource) ≡ b → AllByRecursion (HasOwnPlans f) (map (whole (made_bare bare)) (cond b (o ∷ rest) rest))) [
      | true ↦ λ lies. (
        record {
          trees = [];
          spelled = no_form f o.0.resource o.1.document.json lies;
          bytes = no_bytes o.0.resource (these []) (these (plans_in o.1.document.json [])) lies;
        },
        each_own f bare os,
      )
      | false ↦ λ held. each_own f bare os
    ] refl

-- Each object that lies in pages has its own plans.
pub below_own : (f : Format) {D : Type 0} (disk : Disk D) (device : D) (p : Paged) (base : List (Key × Stored Decoded)) → Below disk device p base
    → AllByRecursion (HasOwnPlans f) base
below_own f disk device p base below =
    let lies = below (record {}) in
    subst (AllByRecursion (HasOwnPlans f)) (sym lies.are) (each_own f (record {}) lies.all)

-- ---- what is handed on of it

no_bytes_at_all : (r : Resource) (plans : Plans) → not (is_rule r) ≡ true → plans_bytes r plans ≡ []
no_bytes_at_all ConfigMap plans lies = refl
no_bytes_at_all Node plans lies = refl
no_bytes_at_all Pod plans lies = refl
no_bytes_at_all Service plans lies = refl
no_bytes_at_all Deployment plans lies = refl
no_bytes_at_all Namespace plans lies = refl
no_bytes_at_all ValidatingAdmissionPolicy plans lies = cc
no_bytes_at_all ValidatingAdmissionPolicyBinding plans lies = cc

-- No object that lies in pages has plans.
pub lie_without_plans : LieWithoutPlans lies
lie_without_plans = no_bytes_at_all

each_lies : (bare : WithoutPlans) (os : List (Key × CachedObject)) → AllLie lies (map (whole (made_bare bare)) (not_held (held_bare bare) os))
each_lies bare [] = tt
each_lies bare (o ∷ os) =
    let rest : List (Key × CachedObject) = not_held (held_bare bare) os in
    elim (not (is_rule o.0.resource))
    as (λ b. not (is_rule o.0.resource) ≡ b → AllLie lies (map (whole (made_bare bare)) (cond b (o ∷ rest) rest))) [
      | true ↦ λ lie. (lie, each_lies bare os)
      | false ↦ λ held. each_lies bare os
    ] refl

-- Each object that lies in pages is none that is held in memory.
pub below_lies : {D : Type 0} (disk : Disk D) (device : D) (p : Paged) (base : List (Key × Stored Decoded)) → Below disk device p base → AllLie lies base
below_lies disk device p base below =
    let there = below (record {}) in
    subst (AllLie lies) (sym there.are) (each_lies (record {}) there.all)
