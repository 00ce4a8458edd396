-- What stands in an object stands there in a format that has more.
use Rattle.std.proofs.Common.{◌≡◌, ◌∙◌, ◌||◌, sym, ap, subst, refl, Bool, List, [], ◌∷◌, true, false, cond, true≢false, IsTrue, Option, Some, None, is_some, is_none, option_and_then, if◌then◌else◌}
use Rattle.serde_json.specs.Data.{Data}
use Rattle.celtree.specs.Tree.{Expr}
use Rattle.celtypes.specs.Types.{ValueType}
use Rattle.celtypes.specs.Typing.{HasType, TypesStay}
use Rattle.names.specs.Format.{has_namespaces}
use Rattle.names.specs.declared.format.Format.{Format}
use Rattle.names.specs.declared.resource.Resource.{Resource}
use Rattle.names.specs.declared.resource.Resource.TheVariants.{ConfigMap, Node, Pod, Service, Deployment, ValidatingAdmissionPolicy, ValidatingAdmissionPolicyBinding, Namespace}
use Rattle.policy.specs.Bindings.{binding_of}
use Rattle.policy.specs.Rules.{MatchRules}
use Rattle.policy.specs.Spec.{Policy, Binding}
use Rattle.expressions.specs.Expressions.{Place, condition, variable, validation, message, Source, Variables, sources, scope_at, and_declared}
use Rattle.expressions.specs.Places.{policy_in}
use Rattle.expressions.specs.Specification.{IsSpecification, sound, may_stand}
use Rattle.expressions.specs.Typed.{AreTyped}

module _ (stay : TypesStay) where
  widened : (a b p : Bool) (vs : Variables) (e : Expr) (t : ValueType) → (a ≡ true → b ≡ true) → HasType (record { locals = []; has_params = p; has_namespace = a; variables = vs }) e t
      → HasType (record { locals = []; has_params = p; has_namespace = b; variables = vs }) e t
  widened a true p vs e t more typed = stay (record { locals = []; has_params = p; has_namespace = a; variables = vs }) e t typed
  widened true false p vs e t more typed = absurd (true≢false (sym (more refl)))
  widened false false p vs e t more typed = typed

  scope_stays : (f g : Format) (p : Policy) (vs : Variables) (place : Place) (e : Expr) (t : ValueType) → (has_namespaces f ≡ true → has_namespaces g ≡ true)
      → HasType (scope_at f p vs place) e t → HasType (scope_at g p vs place) e t
  scope_stays f g p vs condition e t more typed = typed
  scope_stays f g p vs (variable name) e t more typed = widened (has_namespaces f) (has_namespaces g) (is_some p.param_kind) vs e t more typed
  scope_stays f g p vs validation e t more typed = widened (has_namespaces f) (has_namespaces g) (is_some p.param_kind) vs e t more typed
  scope_stays f g p vs message e t more typed = widened (has_namespaces f) (has_namespaces g) (is_some p.param_kind) vs e t more typed

  are_typed_too : (f g : Format) (p : Policy) (vs : Variables) (ss : List Source) (es : List Expr) → (has_namespaces f ≡ true → has_namespaces g ≡ true)
      → AreTyped f p vs ss es → AreTyped g p vs ss es
  are_typed_too f g p vs [] [] more typed = tt
  are_typed_too f g p vs [] (e ∷ es) more typed = absurd typed
  are_typed_too f g p vs (s ∷ ss) [] more typed = absurd typed
  are_typed_too f g p vs (s ∷ ss) (e ∷ es) more typed = (
    typed.0,
    record { read = typed.1.read; typed = scope_stays f g p vs s.place e typed.0 more typed.1.typed; suits = typed.1.suits },
    are_typed_too f g p (and_declared s.place typed.0 vs) ss es more typed.2,
  )

either_too : (a b c : Bool) → (a ≡ true → b ≡ true) → (a || c) ≡ true → (b || c) ≡ true
either_too a true c more may = refl
either_too true false c more may = absurd (true≢false (sym (more refl)))
either_too false false c more may = may

stands_too : (f g : Format) (m : MatchRules) → (has_namespaces f ≡ true → has_namespaces g ≡ true) → may_stand f m ≡ true → may_stand g m ≡ true
stands_too f g m more may = either_too (has_namespaces f) (has_namespaces g) (is_none m.namespaces) more may

if_too : {A : Type 0} (a b : Bool) (x y : A) → (a ≡ true → b ≡ true) → cond a (Some x) None ≡ Some y → cond b (Some x) None ≡ Some y
if_too true b x y more is = ap (λ (c : Bool). cond c (Some x) None) (more refl) ∙ is
if_too false b x y more is = cc

policy_too : (f g : Format) (o : Option Policy) (p : Policy) → (has_namespaces f ≡ true → has_namespaces g ≡ true)
    → option_and_then (λ x. if may_stand f x.constraints then Some x else None) o ≡ Some p → option_and_then (λ x. if may_stand g x.constraints then Some x else None) o ≡ Some p
policy_too f g None p more is = cc
policy_too f g (Some x) p more is = if_too (may_stand f x.constraints) (may_stand g x.constraints) x p (stands_too f g x.constraints more) is

some_if : {A : Type 0} (a b : Bool) (x : A) → (a ≡ true → b ≡ true) → IsTrue (is_some (cond a (Some x) None)) → IsTrue (is_some (cond b (Some x) None))
some_if {A} true b x more is = subst (λ (c : Bool). IsTrue (is_some (cond c (Some x) (let none : Option A = None in none)))) (sym (more refl)) is
some_if false b x more is = cc

binding_too : (f g : Format) (o : Option Binding) → (has_namespaces f ≡ true → has_namespaces g ≡ true)
    → IsTrue (is_some (option_and_then (λ x. if may_stand f x.resources then Some x else None) o)) → IsTrue (is_some (option_and_then (λ x. if may_stand g x.resources then Some x else None) o))
binding_too f g None more is = is
binding_too f g (Some x) more is = some_if (may_stand f x.resources) (may_stand g x.resources) x (stands_too f g x.resources more) is

pub stands_still : TypesStay → (f g : Format) (r : Resource) (d : Data) (trees : List Expr) → (has_namespaces f ≡ true → has_namespaces g ≡ true)
    → IsSpecification f r d (sound trees) → IsSpecification g r d (sound trees)
stands_still stay f g ValidatingAdmissionPolicy d trees more is = (is.0, policy_too f g (policy_in d) is.0 more is.1, are_typed_too stay f g is.0 [] (sources is.0) trees more is.2)
stands_still stay f g ValidatingAdmissionPolicyBinding d trees more is = (binding_too f g (binding_of d) more is.0, is.1)
stands_still stay f g ConfigMap d trees more is = is
stands_still stay f g Node d trees more is = is
stands_still stay f g Pod d trees more is = is
stands_still stay f g Service d trees more is = is
stands_still stay f g Deployment d trees more is = is
stands_still stay f g Namespace d trees more is = is
