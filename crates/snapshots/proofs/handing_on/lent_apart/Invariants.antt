use Rattle.std.proofs.Common.{◌≡◌, ◌++◌, drop, not}
use Rattle.std.specs.List.{filter}
use Rattle.objects.specs.Steps.{puts_of}
use Rattle.snapshots.proofs.handing_on.lent_apart.Given as goal

-- what was lent, and then what of the changes that are left is
abbrev pub invariant-loop-change : goal.invariant-loop-change
invariant-loop-change g l =
    l.lent.items ++ filter (λ o. not (g.B.Below.lies l.below o.0.resource)) (puts_of (drop l.change-index l.changes))
    ≡ filter (λ o. not (g.B.Below.lies l.below o.0.resource)) (puts_of l.changes)
