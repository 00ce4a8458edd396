use Rattle.std.proofs.Common.{◌≡◌, map, length}
use Rattle.policy.specs.Validation.{validation_seen}
use Rattle.verdict.specs.Seen.{world_of}
use Rattle.verdict.specs.ByPlans.{tests_by}
use Rattle.verdict.proofs.validations.tests_by.Given as goal

-- what is left decides
abbrev pub invariant-all : goal.invariant-all
invariant-all l =
    tests_by l.policy (map validation_seen l.rest) l.left (world_of l.scene l.variables) ≡ tests_by l.policy (map validation_seen l.validations) l.plans (world_of l.scene l.variables)

abbrev pub decreases-all : goal.decreases-all
decreases-all l = length l.rest
