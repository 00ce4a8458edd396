use Rattle.std.proofs.Common.{◌≡◌, bytes_eq, drop}
use Rattle.celtokens.proofs.word.RefSliceCharSpelling.is.Given as goal

abbrev pub invariant-loop-i : goal.invariant-loop-i
invariant-loop-i l = bytes_eq (drop l.i l.self) (drop l.i l.bytes) ≡ bytes_eq l.self l.bytes
