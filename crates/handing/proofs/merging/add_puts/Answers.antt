use Rattle.std.proofs.Common.{rules, arith}
use Rattle.handing.proofs.HandedOn.{puts_more}
use Rattle.handing.proofs.merging.add_puts.Goals as goal

pub loop-change-preserved : goal.loop-change-preserved
loop-change-preserved g c =
    puts_more c.args.changes.now c.loop-change.change-index c.change-item.result _ _ _ (omega arith) c.change-item.is c.in_ok-add_put.ensures c.loop-change.invariant
