use Rattle.std.proofs.Common.{◌≡◌, ◌++◌, map, drop}
use Rattle.std.specs.List.{flat_map}
use Rattle.expressions.specs.Expressions.{of_validation}
use Rattle.expressions.specs.Seen.{source_seen}
use Rattle.policy.specs.Validation.{validation_seen}
use Rattle.expressions.proofs.source.with_validations.Given as goal

-- what was taken, and then what is left
abbrev pub invariant-loop-validation : goal.invariant-loop-validation
invariant-loop-validation l =
    map source_seen l.fn.before.items ++ flat_map of_validation (map validation_seen l.validations)
    ≡ map source_seen l.all.items ++ flat_map of_validation (map validation_seen (drop l.validation-index l.validations))
