use Rattle.std.proofs.Common.{◌∙◌}
use Rattle.verdict.specs.Seen.{names_of}
use Rattle.verdict.proofs.Gathered.{one_more}
use Rattle.verdict.proofs.outcomes.outcomes_by.Goals as goal

pub loop-plan-preserved : goal.loop-plan-preserved
loop-plan-preserved c =
    one_more c.args.plans.now c.loop-plan.plan-index c.plan-item.result (names_of c.args.scene.now) c.loop-plan.outcomes.items c.push.new.self.items
    c.deref.result.now c.in_ok-outcome.outcome c.loop-plan-test.true c.plan-item.is c.deref.ensures.value c.in_ok-outcome.ensures c.in_ok-push.ensures.items
    ∙ c.loop-plan.invariant
