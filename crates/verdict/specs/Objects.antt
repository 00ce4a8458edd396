-- Objects with the trees of their expressions, and with their plans, as they are held.
use Rattle.std.specs.Prelude.{◌≡◌, ℕ, List, [], map, Option, Some}
use Rattle.std.specs.List.{AllByRecursion}
use Rattle.names.specs.Key.{Key}
use Rattle.names.specs.declared.format.Format.{Format}
use Rattle.names.specs.declared.resource.Resource.{Resource}
use Rattle.names.specs.declared.resource.Resource.TheVariants.{ConfigMap, Node, Pod, Service, Deployment, ValidatingAdmissionPolicy, ValidatingAdmissionPolicyBinding, Namespace}
use Rattle.celtree.specs.Tree.{Expr}
use Rattle.documents.specs.Document.{Document, shown}
use Rattle.policy.specs.Bindings.{binding_of}
use Rattle.policy.specs.Policies.{policy_of}
use Rattle.policy.specs.Spec.{Policy, Binding}
use Rattle.expressions.specs.Expressions.{sources}
use Rattle.expressions.specs.Typed.{AreTyped}
use Rattle.expressions.specs.Specification.{Plans, these, plans_in}
use Rattle.verdict.specs.Listed.{Shown}

-- a stored document, the trees that its expressions spell if it is a policy, and the revision of its last write
pub record Object : Type 0 where
  pub document : Document
  pub trees : List Expr
  pub revision : ℕ

abbrev pub Objects : Type 0
Objects = List (Key × Object)

abbrev pub shown_objects : Objects → Shown
shown_objects objects = map (λ o. (o.0, shown o.1.document o.1.revision)) objects

-- the same with plans for trees, and what the document spells
pub record Held : Type 0 where
  pub document : Document
  pub policy : Option Policy
  pub plans : Plans
  pub binding : Option Binding
  pub revision : ℕ

abbrev pub held : Object → Held
held o = record {
  document = o.document;
  policy = policy_of o.document.json;
  plans = these (plans_in o.document.json o.trees);
  binding = binding_of o.document.json;
  revision = o.revision;
}

-- the objects as they are held
abbrev pub all_held : Objects → List (Key × Held)
all_held objects = map (λ o. (o.0, held o.1)) objects

-- the trees of a policy are those that its expressions spell, each with a type as it must have in some format
abbrev pub HasTrees : Resource → Object → Type 0
HasTrees ValidatingAdmissionPolicy o = (p : Policy) → policy_of o.document.json ≡ Some p → (f : Format) × AreTyped f p [] (sources p) o.trees
HasTrees ConfigMap o = Unit {0}
HasTrees Node o = Unit {0}
HasTrees Pod o = Unit {0}
HasTrees Service o = Unit {0}
HasTrees Deployment o = Unit {0}
HasTrees ValidatingAdmissionPolicyBinding o = Unit {0}
HasTrees Namespace o = Unit {0}

-- each has the trees of its expressions
abbrev pub HaveTrees : Objects → Type 0
HaveTrees objects = AllByRecursion (λ o. HasTrees o.0.resource o.1) objects
