use Rattle.std.proofs.Common.{◌<◌, arith}
use Rattle.planrun.proofs.Stacks.{taken_on, left_on}
use Rattle.planrun.proofs.stack.take_topmost.Goals as goal

pub loop-preserved : goal.loop-preserved
loop-preserved c =
    let less : c.loop.counter < c.args.count = omega arith in
    record {
      taken = rw c.in_ok-push.ensures.items (taken_on c.loop.outcomes.items c.in_ok-into_outcome.field-0 _ _ _ _ c.args.count c.loop.counter less c.pop-held.ensures.taken c.in_ok-into_outcome.ensures c.loop.invariant.taken);
      left = left_on _ _ _ _ c.args.count c.loop.counter less c.pop-held.ensures.taken c.loop.invariant.left;
      within = omega arith;
      enough = omega (arith, c.pop-held.ensures.shorter, c.loop.invariant.enough);
    }
