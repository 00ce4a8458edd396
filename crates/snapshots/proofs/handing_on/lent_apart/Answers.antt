use Rattle.std.proofs.Common.{arith, not}
use Rattle.names.specs.Key.{Key}
use Rattle.snapshots.proofs.HandedOn.{lent_more}
use Rattle.snapshots.proofs.handing_on.lent_apart.Goals as goal

pub loop-change-preserved : goal.loop-change-preserved
loop-change-preserved g c =
    lent_more (λ (k : Key). not (g.B.Below.lies c.args.below.now k.resource)) c.args.changes.now c.loop-change.change-index c.change-item.result _ _ _ (omega arith) c.change-item.is
    c.in_ok-lend_apart.ensures c.loop-change.invariant
