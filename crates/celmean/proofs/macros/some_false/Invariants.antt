use Rattle.std.proofs.Common.{◌≡◌, drop}
use Rattle.celmean.specs.Macros.{some_is, is_false}
use Rattle.celmean.specs.Seen.{outcomes_seen}
use Rattle.celmean.proofs.macros.some_false.Given as goal

abbrev pub invariant-loop-outcome : goal.invariant-loop-outcome
invariant-loop-outcome l = some_is is_false (outcomes_seen (drop l.outcome-index l.outcomes.items)) ≡ some_is is_false (outcomes_seen l.outcomes.items)
