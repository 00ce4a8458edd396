use Rattle.std.proofs.Common.{◌≡◌, ◌+◌, ◌≤◌, drop}
use Rattle.celmean.specs.Macros.{count_true}
use Rattle.celmean.specs.Seen.{outcomes_seen}
use Rattle.celmean.proofs.macros.count_true.Given as goal

abbrev pub invariant-loop-outcome : goal.invariant-loop-outcome
invariant-loop-outcome l = record {
  counted : l.count + count_true (outcomes_seen (drop l.outcome-index l.outcomes.items)) ≡ count_true (outcomes_seen l.outcomes.items);
  within : l.count ≤ l.outcome-index;
}
