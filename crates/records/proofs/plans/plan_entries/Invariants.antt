use Rattle.std.proofs.Common.{◌≡◌, map}
use Rattle.std.specs.List.{range_with_len}
use Rattle.records.specs.Entries.{plan_entry}
use Rattle.records.proofs.plans.plan_entries.Given as goal

-- the entries of the pieces so far
abbrev pub invariant-loop-number : goal.invariant-loop-number
invariant-loop-number l = l.entries.items ≡ map (plan_entry l.key l.plans) (range_with_len 0 l.number)
