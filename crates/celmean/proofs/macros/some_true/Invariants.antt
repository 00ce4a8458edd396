use Rattle.std.proofs.Common.{◌≡◌, drop}
use Rattle.celmean.specs.Macros.{some_is, is_true}
use Rattle.celmean.specs.Seen.{outcomes_seen}
use Rattle.celmean.proofs.macros.some_true.Given as goal

abbrev pub invariant-loop-outcome : goal.invariant-loop-outcome
invariant-loop-outcome l = some_is is_true (outcomes_seen (drop l.outcome-index l.outcomes.items)) ≡ some_is is_true (outcomes_seen l.outcomes.items)
