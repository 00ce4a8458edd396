-- What stands in an object.
use Rattle.std.proofs.Common.{◌≡◌, ◌∙◌, sym, ap, subst, refl, ℕ, ◌≤◌, List, [], ◌∷◌, length, Bool, true, false, nat_le, cond, Option, Some, None, IsTrue, arith}
use Rattle.std.proofs.lemmas.Bool.Decides.{nat_tests}
use Rattle.std.specs.Prelude.{is_some, if◌then◌else◌, option_and_then}
use Rattle.std.specs.Option.{option_map_or}
use Rattle.serde_json.specs.Data.{Data}
use Rattle.celtree.specs.Tree.{Expr}
use Rattle.names.specs.declared.resource.Resource.{Resource}
use Rattle.names.specs.declared.resource.Resource.TheVariants.{ConfigMap, Node, Pod, Service, Deployment, ValidatingAdmissionPolicy, ValidatingAdmissionPolicyBinding, Namespace}
use Rattle.names.specs.declared.format.Format.{Format}
use Rattle.plancode.specs.Plans.{Judged}
use Rattle.policy.specs.Bindings.{binding_of}
use Rattle.policy.specs.Policies.{policy_of}
use Rattle.policy.specs.Forms.{Text}
use Rattle.policy.specs.Spec.{Policy, Binding}
use Rattle.expressions.specs.Expressions.{Source, sources}
use Rattle.expressions.specs.Plans.{each_plan, plans_of}
use Rattle.expressions.specs.Typed.{AreTyped, AreSpelled, IsFirstBad, AreUntyped}
use Rattle.expressions.specs.Places.{policy_in}
use Rattle.expressions.specs.Specification.{Specification, sound, bad_spec, bad_expression, IsSpecification, IsCompiled, Spells, may_stand, policy_for, binding_for, plans_in}
use Rattle.expressions.proofs.Progress.{typed_spelled}

-- ---- of no trees there are no plans

none_each : (ss : List Source) → each_plan [] ss [] ≡ []
none_each [] = refl
none_each (s ∷ ss) = refl

none_of : (p : Option Policy) → option_map_or (λ q. plans_of q []) p [] ≡ []
none_of None = refl
none_of (Some p) = none_each (sources p)

pub no_plans : (d : Data) → plans_in d [] ≡ []
no_plans d = none_of (policy_of d)

-- ---- what is meant

one_meaning : (trees these : List Expr) → ◌≡◌ {A = Specification Expr} (sound trees) (sound these) → trees ≡ these
one_meaning trees these same = cc

not_bad_spec : (trees : List Expr) → ◌≡◌ {A = Specification Expr} bad_spec (sound trees) → ⊥
not_bad_spec trees same = cc

not_bad_expression : (text : Text) (trees : List Expr) → ◌≡◌ {A = Specification Expr} (bad_expression text) (sound trees) → ⊥
not_bad_expression text trees same = cc

-- ---- bindings

pub sound_binding : (f : Format) (d : Data) → IsTrue (is_some (binding_for f d)) → IsCompiled f ValidatingAdmissionPolicyBinding d (sound [])
sound_binding f d is = record {
  meant = sound [];
  stands = (is, refl);
  plans = ap sound (sym (no_plans d));
  alone = λ trees also. ap sound (sym also.1);
  spelled = λ trees other meant spells. spells ∙ one_meaning [] trees meant;
}

pub bad_binding : (f : Format) (d : Data) → binding_for f d ≡ None → IsCompiled f ValidatingAdmissionPolicyBinding d bad_spec
bad_binding f d is = record {
  meant = bad_spec;
  stands = is;
  plans = refl;
  alone = λ trees also. let There : Option Binding → Type 0 = λ o. IsTrue (is_some o) in let never : There None = subst There is also.0 in cc;
  spelled = λ trees other meant spells. absurd (not_bad_spec trees meant);
}

-- ---- other resources

other : (f : Format) (r : Resource) (d : Data) → ((s : Specification Expr) → IsSpecification f r d s → s ≡ sound []) → IsSpecification f r d (sound [])
    → ((trees : List Expr) → Spells r d trees → trees ≡ []) → IsCompiled f r d (sound [])
other f r d only is none = record {
  meant = sound [];
  stands = is;
  plans = ap sound (sym (no_plans d));
  alone = λ trees also. sym (only (sound trees) also);
  spelled = λ trees others meant spells. none others spells ∙ one_meaning [] trees meant;
}

pub config_map : (f : Format) (d : Data) → IsCompiled f ConfigMap d (sound [])
config_map f d = other f ConfigMap d (λ s is. is) refl (λ trees is. is)

pub node : (f : Format) (d : Data) → IsCompiled f Node d (sound [])
node f d = other f Node d (λ s is. is) refl (λ trees is. is)

pub pod : (f : Format) (d : Data) → IsCompiled f Pod d (sound [])
pod f d = other f Pod d (λ s is. is) refl (λ trees is. is)

pub service : (f : Format) (d : Data) → IsCompiled f Service d (sound [])
service f d = other f Service d (λ s is. is) refl (λ trees is. is)

pub deployment : (f : Format) (d : Data) → IsCompiled f Deployment d (sound [])
deployment f d = other f Deployment d (λ s is. is) refl (λ trees is. is)

pub namespace : (f : Format) (d : Data) → IsCompiled f Namespace d (sound [])
namespace f d = other f Namespace d (λ s is. is) refl (λ trees is. is)

-- ---- policies

if_few : (b : Bool) (p q : Policy) → cond b (Some p) None ≡ Some q → (b ≡ true) × (p ≡ q)
if_few true p q is = (refl, let same : Some p ≡ Some q = is in cc)
if_few false p q is = cc

few_of : (o : Option Policy) (p q : Policy) → o ≡ Some p → option_and_then (λ x. if nat_le (length (sources x)) 65535 then Some x else None) o ≡ Some q → (nat_le (length (sources p)) 65535 ≡ true) × (p ≡ q)
few_of None p q is counted = cc
few_of (Some x) p q is counted =
    let same : x ≡ p = cc in
    let P : Policy → Type 0 = λ y. (nat_le (length (sources y)) 65535 ≡ true) × (y ≡ q) in
    subst P same (if_few (nat_le (length (sources x)) 65535) x q counted)

at_most : (n m : ℕ) → nat_le n m ≡ true → n ≤ m
at_most n m h = grind (arith, nat_tests)

spelled_if : (b : Bool) (p q : Policy) → cond b (Some p) None ≡ Some q → Some p ≡ Some q
spelled_if true p q is = is
spelled_if false p q is = cc

spelled_of : (o : Option Policy) (q : Policy) → option_and_then (λ x. if nat_le (length (sources x)) 65535 then Some x else None) o ≡ Some q → o ≡ Some q
spelled_of None q counted = cc
spelled_of (Some x) q counted = spelled_if (nat_le (length (sources x)) 65535) x q counted

-- a policy that is counted is spelled
pub spelled_policy : (d : Data) (q : Policy) → policy_in d ≡ Some q → policy_of d ≡ Some q
spelled_policy d q counted = spelled_of (policy_of d) q counted

-- a policy that is counted has few expressions
pub few_sources : (d : Data) (p : Policy) → policy_in d ≡ Some p → length (sources p) ≤ 65535
few_sources d p counted = at_most (length (sources p)) 65535 (few_of (policy_of d) p p (spelled_policy d p counted) counted).0

-- the policy that was counted is the one that is spelled
pub same_policy : (d : Data) (p q : Policy) → policy_of d ≡ Some p → policy_in d ≡ Some q → p ≡ q
same_policy d p q is counted = (few_of (policy_of d) p q is counted).1

-- ---- which may stand

for_if : (b : Bool) (x p : Policy) → cond b (Some x) None ≡ Some p → Some x ≡ Some p
for_if true x p is = is
for_if false x p is = cc

for_of : (f : Format) (o : Option Policy) (p : Policy) → option_and_then (λ x. if may_stand f x.constraints then Some x else None) o ≡ Some p → o ≡ Some p
for_of f None p is = cc
for_of f (Some x) p is = for_if (may_stand f x.constraints) x p is

-- a policy that may stand is counted
pub counted_policy : (f : Format) (d : Data) (p : Policy) → policy_for f d ≡ Some p → policy_in d ≡ Some p
counted_policy f d p is = for_of f (policy_in d) p is

if_stands : (f : Format) (o : Option Policy) (p : Policy) (b : Bool) → o ≡ Some p → may_stand f p.constraints ≡ b
    → option_and_then (λ x. if may_stand f x.constraints then Some x else None) o ≡ cond b (Some p) None
if_stands f o p b is may =
    ap (option_and_then (λ x. if may_stand f x.constraints then Some x else None)) is ∙ ap (λ (c : Bool). cond c (Some p) None) may

-- a policy stands where its match rules may,
pub stands_for : (f : Format) (d : Data) (p : Policy) → policy_in d ≡ Some p → may_stand f p.constraints ≡ true → policy_for f d ≡ Some p
stands_for f d p is may = if_stands f (policy_in d) p true is may

-- and else none does,
pub stands_not : (f : Format) (d : Data) (p : Policy) → policy_in d ≡ Some p → may_stand f p.constraints ≡ false → policy_for f d ≡ None
stands_not f d p is may = if_stands f (policy_in d) p false is may

-- nor where there is no policy
pub no_policy : (f : Format) (d : Data) → policy_in d ≡ None → policy_for f d ≡ None
no_policy f d is = ap (option_and_then (λ x. if may_stand f x.constraints then Some x else None)) is

binding_stands : (f : Format) (o : Option Binding) (x : Binding) (b : Bool) → o ≡ Some x → may_stand f x.resources ≡ b
    → option_and_then (λ y. if may_stand f y.resources then Some y else None) o ≡ cond b (Some x) None
binding_stands f o x b is may =
    ap (option_and_then (λ y. if may_stand f y.resources then Some y else None)) is ∙ ap (λ (c : Bool). cond c (Some x) None) may

-- so it is with bindings
pub binding_may : (f : Format) (d : Data) (x : Binding) → binding_of d ≡ Some x → may_stand f x.resources ≡ true → IsTrue (is_some (binding_for f d))
binding_may f d x is may = ap is_some (binding_stands f (binding_of d) x true is may)

pub binding_may_not : (f : Format) (d : Data) (x : Binding) → binding_of d ≡ Some x → may_stand f x.resources ≡ false → binding_for f d ≡ None
binding_may_not f d x is may = binding_stands f (binding_of d) x false is may

pub no_binding : (f : Format) (d : Data) → binding_of d ≡ None → binding_for f d ≡ None
no_binding f d is = ap (option_and_then (λ y. if may_stand f y.resources then Some y else None)) is

-- ---- what stands in a policy

pub bad_policy : (f : Format) (d : Data) → policy_for f d ≡ None → IsCompiled f ValidatingAdmissionPolicy d bad_spec
bad_policy f d is = record {
  meant = bad_spec;
  stands = is;
  plans = refl;
  alone = λ trees also. let also_is = also.1 in cc;
  spelled = λ trees other meant spells. absurd (not_bad_spec trees meant);
}

no_trees : (f : Format) (d : Data) (p : Policy) (trees : List Expr) → policy_for f d ≡ Some p → AreUntyped f p (sources p) → (q : Policy) → policy_for f d ≡ Some q
    → AreTyped f q [] (sources q) trees → ⊥
no_trees f d p trees is none q also typed =
    let same : q ≡ p = cc in
    let P : Policy → Type 0 = λ x. AreTyped f x [] (sources x) trees in
    none trees (subst P same typed)

pub bad_expression_in : (f : Format) (d : Data) (p : Policy) (text : Text) → policy_for f d ≡ Some p → IsFirstBad f p [] (sources p) text → AreUntyped f p (sources p)
    → IsCompiled f ValidatingAdmissionPolicy d (bad_expression text)
bad_expression_in f d p text is bad none = record {
  meant = bad_expression text;
  stands = (p, is, bad);
  plans = refl;
  alone = λ trees also. absurd (no_trees f d p trees is none also.0 also.1 also.2);
  spelled = λ trees other meant spells. absurd (not_bad_expression text trees meant);
}

pub bad_expression_of : (f : Format) (d : Data) (form p : Policy) (text : Text) → policy_for f d ≡ Some form → policy_in d ≡ Some p → IsFirstBad f p [] (sources p) text
    → AreUntyped f p (sources p) → IsCompiled f ValidatingAdmissionPolicy d (bad_expression text)
bad_expression_of f d form p text is counted bad none =
    let both : Some p ≡ Some form = sym counted ∙ counted_policy f d form is in
    let same : p ≡ form = cc in
    bad_expression_in f d form text is (subst (λ (x : Policy). IsFirstBad f x [] (sources x) text) same bad)
    (subst (λ (x : Policy). AreUntyped f x (sources x)) same none)

the_trees : (f : Format) (d : Data) (p : Policy) (trees other : List Expr) → policy_for f d ≡ Some p → ((more : List Expr) → AreTyped f p [] (sources p) more → more ≡ trees)
    → (q : Policy) → policy_for f d ≡ Some q → AreTyped f q [] (sources q) other → other ≡ trees
the_trees f d p trees other is alone q also typed =
    let same : q ≡ p = cc in
    let P : Policy → Type 0 = λ x. AreTyped f x [] (sources x) other in
    alone other (subst P same typed)

the_spelled : (d : Data) (p : Policy) (trees other : List Expr) → policy_in d ≡ Some p → ((more : List Expr) → AreSpelled (sources p) more → more ≡ trees)
    → (q : Policy) → policy_in d ≡ Some q → AreSpelled (sources q) other → other ≡ trees
the_spelled d p trees other is alone q also spelled =
    let same : q ≡ p = cc in
    let P : Policy → Type 0 = λ x. AreSpelled (sources x) other in
    alone other (subst P same spelled)

pub sound_policy : (f : Format) (d : Data) (p : Policy) (trees : List Expr) (plans : List Judged) → policy_for f d ≡ Some p → AreTyped f p [] (sources p) trees
    → ((more : List Expr) → AreSpelled (sources p) more → more ≡ trees) → plans ≡ plans_of p trees → IsCompiled f ValidatingAdmissionPolicy d (sound plans)
sound_policy f d p trees plans is typed alone same = record {
  meant = sound trees;
  stands = (p, is, typed);
  plans = ap sound (same ∙ ap (λ o. option_map_or (λ q. plans_of q trees) o []) (sym (spelled_policy d p (counted_policy f d p is))));
  alone = λ these also. ap sound (sym (the_trees f d p trees these is (λ more typed. alone more (typed_spelled f p [] (sources p) more typed)) also.0 also.1 also.2));
  spelled = λ these other meant spells.
      the_spelled d p trees other (counted_policy f d p is) alone spells.0 spells.1 spells.2 ∙ one_meaning trees these meant;
}
