use Rattle.std.proofs.Common.{◌≡◌, ◌++◌, drop}
use Rattle.snapshots.proofs.lent.lend_objects.Given as goal

-- what was lent, and then what is left
abbrev pub invariant-loop-key : goal.invariant-loop-key
invariant-loop-key l = l.lent.items ++ drop l.key-index l.objects ≡ l.fn.lent.items ++ l.objects
