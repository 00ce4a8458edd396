use Rattle.std.proofs.Common.{◌≡◌, ◌++◌, map, drop}
use Rattle.policy.specs.Spec.{named_seen}
use Rattle.expressions.specs.Places.{variable_places}
use Rattle.expressions.proofs.places.with_variables.Given as goal

-- what was counted, and then what is left
abbrev pub invariant-loop-variable : goal.invariant-loop-variable
invariant-loop-variable l =
    (l.earlier ≡ l._variable-index)
    × (l.fn.before.items ++ variable_places 0 (map named_seen l.variables) ≡ l.places.items ++ variable_places l.earlier (map named_seen (drop l._variable-index l.variables)))
