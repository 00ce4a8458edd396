use Rattle.std.proofs.Common.{◌≡◌, ◌++◌, map, drop}
use Rattle.std.specs.List.{flat_map}
use Rattle.policy.specs.Validation.{validation_seen}
use Rattle.expressions.specs.Places.{validation_places}
use Rattle.expressions.proofs.places.with_validations.Given as goal

-- what was counted, and then what is left
abbrev pub invariant-loop-validation : goal.invariant-loop-validation
invariant-loop-validation l =
    l.fn.before.items ++ flat_map (validation_places l.all) (map validation_seen l.validations)
    ≡ l.places.items ++ flat_map (validation_places l.all) (map validation_seen (drop l.validation-index l.validations))
