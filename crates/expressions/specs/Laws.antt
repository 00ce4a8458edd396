-- Laws of policies, as formats have them and as they are stored.
use Rattle.std.specs.Prelude.{◌≡◌, ◌≤◌, ℕ, ◌+◌, List, [], ◌∷◌, length, Some, true}
use Rattle.serde_json.specs.Data.{Data}
use Rattle.celtree.specs.Tree.{Expr}
use Rattle.jsondoc.specs.Json.{text}
use Rattle.names.specs.Format.{has_namespaces}
use Rattle.names.specs.declared.format.Format.{Format}
use Rattle.names.specs.declared.resource.Resource.{Resource}
use Rattle.policy.specs.Policies.{policy_of}
use Rattle.policy.specs.Spec.{Policy}
use Rattle.expressions.specs.Expressions.{Source, sources}
use Rattle.expressions.specs.Places.{policy_in}
use Rattle.expressions.specs.Specification.{IsSpecification, sound, Plans, plans_bytes, MayHavePlans}

-- Trees that stand in an object in one format stand there in another too, provided that namespaces are objects in this one if they are in the first.
abbrev pub SpecificationsStay : Type 0
SpecificationsStay =
    (f g : Format) (r : Resource) (d : Data) (trees : List Expr) → (has_namespaces f ≡ true → has_namespaces g ≡ true)
    → IsSpecification f r d (sound trees) → IsSpecification g r d (sound trees)

-- Plans that an object may have, with the same bytes, are the same.
abbrev pub OneStoredList : Type 0
OneStoredList =
    (r : Resource) (d : Data) (first second : Plans) → MayHavePlans r d first → MayHavePlans r d second → plans_bytes r first ≡ plans_bytes r second
    → first ≡ second

-- how many bytes expressions have together
abbrev pub total_length : List Source → ℕ
total_length [] = 0
total_length (s ∷ ss) = length s.text + total_length ss

-- The expressions of a policy have together at most as many bytes as its document's text.
abbrev pub ExpressionsFitTheText : Type 0
ExpressionsFitTheText = (d : Data) (p : Policy) → policy_of d ≡ Some p → total_length (sources p) ≤ length (text d)

-- A policy that a document spells has no more variables than `plan::compile` takes.
abbrev pub VariablesAreFew : Type 0
VariablesAreFew = (d : Data) (p : Policy) → policy_in d ≡ Some p → length p.variables ≤ 65535
