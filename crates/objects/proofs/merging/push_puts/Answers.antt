use Rattle.std.proofs.Common.{rules, arith}
use Rattle.objects.proofs.Taking.{puts_more}
use Rattle.objects.proofs.merging.push_puts.Goals as goal

pub loop-change-preserved : goal.loop-change-preserved
loop-change-preserved g c =
    puts_more c.args.changes.now c.loop-change.change-index c.change-item.result c.loop-change.kept.items c.push_put.new.kept.items _ (omega arith) (search rules)
    c.in_ok-push_put.ensures c.loop-change.invariant
