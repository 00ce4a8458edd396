-- What the program's expressions stand for, and what its faults tell.
use Rattle.std.specs.Prelude.{◌≡◌, List, [], map, None, string_bytes}
use Rattle.serde_json.specs.Data.{Data}
use Rattle.celtree.specs.declared.tree.Tree.{Tree}
use Rattle.celtree.specs.Tree.{Expr}
use Rattle.celtree.specs.View.{view}
use Rattle.names.specs.declared.format.Format.{Format}
use Rattle.policy.specs.Spec.{Policy}
use Rattle.expressions.specs.declared.fault.PolicyFault.{PolicyFault}
use Rattle.expressions.specs.declared.fault.PolicyFault.TheVariants.{BadSpec, BadExpression, Memory}
use Rattle.expressions.specs.declared.source.Place as code_place
use Rattle.expressions.specs.declared.source.Place.TheVariants as place
use Rattle.expressions.specs.declared.source.Source as code_source
use Rattle.expressions.specs.Expressions.{Place, condition, variable, validation, message, Source}
use Rattle.expressions.specs.Places.{policy_in}
use Rattle.expressions.specs.Typed.{IsFirstBad, AreUntyped, HasBadExpression}

abbrev pub place_seen : code_place.Place → Place
place_seen place.Condition = condition
place_seen (place.Variable name) = variable name.now
place_seen place.Validation = validation
place_seen place.Message = message

abbrev pub source_seen : code_source.Source → Source
source_seen s = record { place = place_seen s.place; text = s.text.now }

abbrev pub trees_seen : List Tree → List Expr
trees_seen ts = map view ts

-- the fault is that of the document
abbrev pub IsFaultOf : Format → Data → PolicyFault → Type 0
IsFaultOf f document BadSpec = policy_in document ≡ None
IsFaultOf f document (BadExpression text) = HasBadExpression f document (string_bytes text)
IsFaultOf f document Memory = Unit {0}

-- the fault is that of the policy's expressions
abbrev pub IsFaultAmong : Format → Policy → List Source → PolicyFault → Type 0
IsFaultAmong f p ss BadSpec = ⊥
IsFaultAmong f p ss (BadExpression text) = IsFirstBad f p [] ss (string_bytes text) × AreUntyped f p ss
IsFaultAmong f p ss Memory = Unit {0}
