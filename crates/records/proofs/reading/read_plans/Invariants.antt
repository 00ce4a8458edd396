use Rattle.std.proofs.Common.{◌≡◌, ◌≤◌, ◌^◌, length, take}
use Rattle.records.specs.Entries.{plan_entries}
use Rattle.records.proofs.reading.read_plans.Given as goal

-- the pieces so far are those of the bytes so far
abbrev pub invariant-loop-entry : goal.invariant-loop-entry
invariant-loop-entry l = (l.count ≡ l.entry-index) × (plan_entries l.policy l.plans.items ≡ take l.entry-index l.entries) × (length l.plans.items ≤ 2 ^ 30)
