use Rattle.std.proofs.Common.{◌≡◌, drop}
use Rattle.celmean.specs.Macros.{all_are, is_true}
use Rattle.celmean.specs.Seen.{outcomes_seen}
use Rattle.celmean.proofs.macros.all_true.Given as goal

abbrev pub invariant-loop-outcome : goal.invariant-loop-outcome
invariant-loop-outcome l = all_are is_true (outcomes_seen (drop l.outcome-index l.outcomes.items)) ≡ all_are is_true (outcomes_seen l.outcomes.items)
