use Rattle.records.specs.Frames.{LieInFront}
use Rattle.records.proofs.payload_keys.read_each_key.Given as goal

-- the frames so far, and then the rest, are the bytes
abbrev pub invariant-loop : goal.invariant-loop
invariant-loop l = LieInFront l.bytes l.rest l.counter l.keys.items
