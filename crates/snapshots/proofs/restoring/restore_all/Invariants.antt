use Rattle.std.proofs.Common.{◌≡◌, drop}
use Rattle.snapshots.proofs.Held.{HoldsSome}
use Rattle.snapshots.proofs.restoring.restore_all.Given as goal

abbrev pub invariant-loop-object : goal.invariant-loop-object
invariant-loop-object g l = record {
  rules_stay : l.core.rules ≡ l.fn.core.rules;
  holds : HoldsSome (g.B.Below.lies l.below) l.fn.core l.core l.objects (drop l.object-index l.objects);
}
