use Rattle.std.proofs.Common.{◌≡◌, [], drop}
use Rattle.celmean.specs.Seen.{outcomes_seen}
use Rattle.verdict.specs.Seen.{names_of}
use Rattle.verdict.specs.ByPlans.{outcomes_by}
use Rattle.verdict.proofs.outcomes.outcomes_by.Given as goal

-- the outcomes so far, and then those of what is left
abbrev pub invariant-loop-plan : goal.invariant-loop-plan
invariant-loop-plan l =
    outcomes_by (drop l.plan-index l.plans) (names_of l.scene) (outcomes_seen l.outcomes.items) ≡ outcomes_by l.plans (names_of l.scene) []
