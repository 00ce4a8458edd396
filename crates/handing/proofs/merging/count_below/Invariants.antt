use Rattle.std.proofs.Common.{take}
use Rattle.handing.proofs.HandedOn.{AreBelow}
use Rattle.handing.proofs.merging.count_below.Given as goal

abbrev pub invariant-loop-at : goal.invariant-loop-at
invariant-loop-at g l = AreBelow l.key (take l.at l.changes)
