use Rattle.std.proofs.Common.{◌≡◌, drop}
use Rattle.celtypes.specs.Typing.{bound}
use Rattle.celtypes.specs.Seen.{variables_seen}
use Rattle.celtypes.proofs.scope.variable_type.Given as goal

abbrev pub invariant-loop-variable : goal.invariant-loop-variable
invariant-loop-variable l = bound l.name (variables_seen (drop l.variable-index l.variables)) ≡ bound l.name (variables_seen l.variables)
