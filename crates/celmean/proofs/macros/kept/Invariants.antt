use Rattle.std.proofs.Common.{◌≡◌, ◌++◌, drop}
use Rattle.celmean.specs.Macros.{kept}
use Rattle.celmean.specs.Seen.{values_seen, outcomes_seen}
use Rattle.celmean.proofs.macros.kept.Given as goal

abbrev pub invariant-loop-at : goal.invariant-loop-at
invariant-loop-at l =
    kept (values_seen l.items.items) (outcomes_seen l.outcomes.items)
    ≡ values_seen l.kept.items ++ kept (values_seen (drop l.at l.items.items)) (outcomes_seen (drop l.at l.outcomes.items))
