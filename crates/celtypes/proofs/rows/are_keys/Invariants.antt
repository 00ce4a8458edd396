use Rattle.std.proofs.Common.{◌≡◌, drop}
use Rattle.celtypes.specs.Computed.{are_keys}
use Rattle.celtypes.specs.Seen.{types_seen}
use Rattle.celtypes.proofs.rows.are_keys.Given as goal

abbrev pub invariant-loop-key : goal.invariant-loop-key
invariant-loop-key l = are_keys (types_seen (drop l.key-index l.types.items)) ≡ are_keys (types_seen l.types.items)
