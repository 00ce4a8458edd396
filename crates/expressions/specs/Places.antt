-- How many variables each expression of a policy may name: those before it, and none in a match condition.
use Rattle.std.specs.Prelude.{ℕ, ◌+◌, List, [], ◌∷◌, ◌++◌, length, map, nat_le, if◌then◌else◌, Option, Some, None, option_and_then}
use Rattle.std.specs.List.{flat_map}
use Rattle.std.specs.Option.{option_map_or}
use Rattle.serde_json.specs.Data.{Data}
use Rattle.policy.specs.Policies.{policy_of}
use Rattle.policy.specs.Spec.{NamedExpression, Policy}
use Rattle.policy.specs.Validation.{Validation}
use Rattle.expressions.specs.Expressions.{sources}

-- variables may name those before them
abbrev pub variable_places : (earlier : ℕ) → List NamedExpression → List ℕ
variable_places n [] = []
variable_places n (v ∷ vs) = n ∷ variable_places (n + 1) vs

-- a validation may name all, and so may its message
abbrev pub validation_places : (all : ℕ) → Validation → List ℕ
validation_places n v = n ∷ option_map_or (λ _. n ∷ []) v.message_expression []

-- in the order of the expressions
abbrev pub places_of : Policy → List ℕ
places_of p = map (λ _. 0) p.conditions ++ (variable_places 0 p.variables ++ flat_map (validation_places (length p.variables)) p.validations)

-- The policy that a document spells. One with more expressions than two bytes count, 65535, is none: no plan names its last
-- variables, and no record counts its plans. A body within the limit of its size has never as many.
abbrev pub policy_in : Data → Option Policy
policy_in d = option_and_then (λ p. if nat_le (length (sources p)) 65535 then Some p else None) (policy_of d)
