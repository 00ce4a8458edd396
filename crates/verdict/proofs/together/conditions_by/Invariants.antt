use Rattle.std.proofs.Common.{◌≡◌, [], map, length}
use Rattle.policy.specs.Spec.{named_seen}
use Rattle.verdict.specs.Seen.{conditions_seen, world_of}
use Rattle.verdict.specs.ByPlans.{conditions_by}
use Rattle.verdict.proofs.Kept.{after}
use Rattle.verdict.proofs.together.conditions_by.Given as goal

-- what was kept, and then what is left
abbrev pub invariant-all : goal.invariant-all
invariant-all l =
    after (conditions_seen l.kept) (conditions_by (map named_seen l.rest) l.plans_left (world_of l.scene []))
    ≡ conditions_by (map named_seen l.conditions) l.plans (world_of l.scene [])

abbrev pub decreases-all : goal.decreases-all
decreases-all l = length l.rest
