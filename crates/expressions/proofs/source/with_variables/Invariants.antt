use Rattle.std.proofs.Common.{◌≡◌, ◌++◌, map, drop}
use Rattle.expressions.specs.Expressions.{of_variable}
use Rattle.expressions.specs.Seen.{source_seen}
use Rattle.policy.specs.Spec.{named_seen}
use Rattle.expressions.proofs.source.with_variables.Given as goal

-- what was taken, and then what is left
abbrev pub invariant-loop-variable : goal.invariant-loop-variable
invariant-loop-variable l =
    map source_seen l.fn.before.items ++ map of_variable (map named_seen l.variables)
    ≡ map source_seen l.all.items ++ map of_variable (map named_seen (drop l.variable-index l.variables))
