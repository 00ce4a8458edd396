use Rattle.std.proofs.Common.{map, take}
use Rattle.recovery.specs.Known.{AreKeysOf}
use Rattle.recovery.proofs.keys.written_keys.Given as goal

abbrev pub invariant-loop-payload : goal.invariant-loop-payload
invariant-loop-payload l = AreKeysOf (map (λ p. p.items) (take l.payload-index l.payloads)) l.keys.items
