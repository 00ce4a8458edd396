use Rattle.std.proofs.Common.{◌≡◌, drop}
use Rattle.celtypes.specs.Computed.{all_are}
use Rattle.celtypes.specs.Seen.{type_seen, types_seen}
use Rattle.celtypes.proofs.types.all_are.Given as goal

abbrev pub invariant-loop-other : goal.invariant-loop-other
invariant-loop-other l = all_are (type_seen l.first) (types_seen (drop l.other-index l.rest)) ≡ all_are (type_seen l.first) (types_seen l.rest)
