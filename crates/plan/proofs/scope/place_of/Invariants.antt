use Rattle.std.proofs.Common.{◌≡◌, ◌+◌, drop}
use Rattle.plan.specs.Names.{place_of}
use Rattle.plan.specs.Seen.{variable_names}
use Rattle.plan.proofs.scope.place_of.Given as goal

abbrev pub invariant-loop-variable : goal.invariant-loop-variable
invariant-loop-variable l = (l.place ≡ l.variable-index) × (place_of l.name (variable_names (drop l.variable-index l.variables)) + l.place ≡ place_of l.name (variable_names l.variables))
