-- What stands in the document that a request asks to be stored.
use Rattle.std.specs.Prelude.{◌≡◌, ◌+◌, ◌*◌, ◌≤◌, ◌^◌, List, length}
use Rattle.serde_json.specs.Data.{Data}
use Rattle.celtree.specs.Tree.{Expr}
use Rattle.jsondoc.specs.Json.{text}
use Rattle.names.specs.declared.format.Format.{Format}
use Rattle.names.specs.declared.resource.Resource.{Resource}
use Rattle.expressions.specs.Specification.{Specification, IsSpecification, Spells, sound, bad_spec, bad_expression, these, plans_in, plans_bytes, MayHavePlans}

abbrev pub AreHeld : Resource → Data → Specification Expr → Type 0
AreHeld r d (sound trees) =
    (length (text d) ≤ 2 ^ 24 → MayHavePlans r d (these (plans_in d trees))) × (length (plans_bytes r (these (plans_in d trees))) ≤ 2 + 22 * length (text d))
AreHeld r d bad_spec = Unit {0}
AreHeld r d (bad_expression t) = Unit {0}

-- This stands in the document in a format, which spells no other trees; plans of them can be held, and have few bytes.
pub record IsRead (f : Format) (r : Resource) (d : Data) (s : Specification Expr) : Type 0 where
  pub stands : IsSpecification f r d s
  pub alone : (trees other : List Expr) → s ≡ sound trees → Spells r d other → other ≡ trees
  pub held : AreHeld r d s
