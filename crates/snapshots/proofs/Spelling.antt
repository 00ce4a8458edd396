-- The trees that stand in an object are those that its text spells, whatever the format.
use Rattle.std.proofs.Common.{◌≡◌, List, []}
use Rattle.celtree.specs.Tree.{Expr}
use Rattle.documents.specs.Document.{Document}
use Rattle.names.specs.declared.format.Format.{Format}
use Rattle.names.specs.declared.resource.Resource.{Resource}
use Rattle.names.specs.declared.resource.Resource.TheVariants.{ConfigMap, Node, Pod, Service, Deployment, ValidatingAdmissionPolicy, ValidatingAdmissionPolicyBinding, Namespace}
use Rattle.expressions.specs.Expressions.{sources}
use Rattle.expressions.specs.Specification.{Specification, IsSpecification, Spells, sound}
use Rattle.expressions.proofs.Progress.{typed_spelled}
use Rattle.expressions.proofs.Standing.{counted_policy}

same_trees : (trees other : List Expr) → ◌≡◌ {A = Specification Expr} (sound trees) (sound other) → trees ≡ other
same_trees trees other same = cc

pub spelled_there : (f : Format) (r : Resource) (d : Document) (trees : List Expr) → IsSpecification f r d.json (sound trees) → Spells r d.json trees
spelled_there f ValidatingAdmissionPolicy d trees is = (is.0, counted_policy f d.json is.0 is.1, typed_spelled f is.0 [] (sources is.0) trees is.2)
spelled_there f ValidatingAdmissionPolicyBinding d trees is = is.1
spelled_there f ConfigMap d trees is = same_trees trees [] is
spelled_there f Node d trees is = same_trees trees [] is
spelled_there f Pod d trees is = same_trees trees [] is
spelled_there f Service d trees is = same_trees trees [] is
spelled_there f Deployment d trees is = same_trees trees [] is
spelled_there f Namespace d trees is = same_trees trees [] is
