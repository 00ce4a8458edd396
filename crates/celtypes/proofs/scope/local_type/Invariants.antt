use Rattle.std.proofs.Common.{◌≡◌, drop}
use Rattle.celtypes.specs.Typing.{bound}
use Rattle.celtypes.specs.Seen.{locals_seen}
use Rattle.celtypes.proofs.scope.local_type.Given as goal

abbrev pub invariant-loop-found : goal.invariant-loop-found
invariant-loop-found l = bound l.name (locals_seen (drop l.found-index l.locals)) ≡ bound l.name (locals_seen l.locals)
