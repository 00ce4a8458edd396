use Rattle.std.proofs.Common.{◌≡◌, map, length}
use Rattle.policy.specs.Forms.{are_distinct}
use Rattle.policy.specs.Policies.{names_of}
use Rattle.policy.specs.Spec.{named_seen}
use Rattle.policy.proofs.named.are_distinct.Given as goal

-- what is left decides
abbrev pub invariant-loop-first : goal.invariant-loop-first
invariant-loop-first l = are_distinct (names_of (map named_seen l.rest)) ≡ are_distinct (names_of (map named_seen l.named))

abbrev pub decreases-loop-first : goal.decreases-loop-first
decreases-loop-first l = length l.rest
