use Rattle.std.proofs.Common.{◌≡◌, ◌++◌, option_map}
use Rattle.std.specs.Vec.Iter.{into_iter_items}
use Rattle.celmean.specs.Collections.{values_of}
use Rattle.celmean.specs.Seen.{values_seen, outcomes_seen}
use Rattle.celmean.proofs.collections.values_of.Given as goal

abbrev pub invariant-loop-outcome : goal.invariant-loop-outcome
invariant-loop-outcome l =
    values_of (outcomes_seen l.fn.outcomes.items) ≡ option_map (λ vs. values_seen l.values.items ++ vs) (values_of (outcomes_seen (into_iter_items l.outcome-iterator)))
