use Rattle.std.proofs.Common.{◌≡◌, ◌++◌, map, drop}
use Rattle.expressions.specs.Expressions.{of_condition}
use Rattle.expressions.specs.Seen.{source_seen}
use Rattle.policy.specs.Spec.{named_seen}
use Rattle.expressions.proofs.source.with_conditions.Given as goal

-- what was taken, and then what is left
abbrev pub invariant-loop-condition : goal.invariant-loop-condition
invariant-loop-condition l =
    map source_seen l.fn.before.items ++ map of_condition (map named_seen l.conditions)
    ≡ map source_seen l.all.items ++ map of_condition (map named_seen (drop l.condition-index l.conditions))
