use Rattle.std.proofs.Common.{◌≡◌, ◌++◌, reverse, vec_len}
use Rattle.celmean.specs.Seen.{outcomes_seen, outcome_pairs_seen}
use Rattle.instructions.specs.Machine.{in_pairs}
use Rattle.planrun.proofs.operations.pairs_of.Given as goal

abbrev pub invariant-pairs : goal.invariant-pairs
invariant-pairs l = outcome_pairs_seen l.pairs.items ++ in_pairs (reverse (outcomes_seen l.outcomes.items)) ≡ in_pairs (reverse (outcomes_seen l.initial.outcomes.items))

abbrev pub decreases-pairs : goal.decreases-pairs
decreases-pairs l = vec_len l.outcomes
