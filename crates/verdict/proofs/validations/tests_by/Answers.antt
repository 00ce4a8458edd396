use Rattle.std.proofs.Common.{◌≡◌, ◌∷◌, option_map, ◌∙◌}
use Rattle.verdict.specs.Seen.{world_of}
use Rattle.verdict.proofs.OutcomeTurns.{turn}
use Rattle.verdict.proofs.validations.tests_by.Goals as goal

pub all-preserved : goal.all-preserved
all-preserved c =
    let s = c.in-Some-Some in
    let first : c.all.rest.now ≡ s.validation.now ∷ s.others.now = cc (s.ensures.cases.0) in
    let second : c.all.left.now ≡ s.plan.now ∷ s.after.now = cc (s.ensures'.cases.0) in
    turn c.args.policy c.all.rest.now s.validation.now s.others.now c.all.left.now s.plan.now s.after.now c.message_plan.result.1.now
    (world_of c.args.scene.now c.args.variables.now) (option_map (λ p. p.now) c.message_plan.result.0) c.in_ok-denial.field-0
    first second c.message_plan.ensures.plan c.message_plan.ensures.after c.in_ok-denial.ensures c.in-None.is
    ∙ c.all.invariant
