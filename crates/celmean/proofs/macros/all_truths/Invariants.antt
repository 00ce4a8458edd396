use Rattle.std.proofs.Common.{◌≡◌, drop}
use Rattle.celmean.specs.Macros.{all_are, is_truth}
use Rattle.celmean.specs.Seen.{outcomes_seen}
use Rattle.celmean.proofs.macros.all_truths.Given as goal

abbrev pub invariant-loop-outcome : goal.invariant-loop-outcome
invariant-loop-outcome l = all_are is_truth (outcomes_seen (drop l.outcome-index l.outcomes.items)) ≡ all_are is_truth (outcomes_seen l.outcomes.items)
