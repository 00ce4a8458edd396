use Rattle.std.proofs.Common.{◌≡◌, ◌++◌}
use Rattle.std.specs.Vec.Iter.{into_iter_items}
use Rattle.checkpoint.specs.EntryList.{listed}
use Rattle.records.specs.Entries.{plan_entries}
use Rattle.snapshots.specs.Keeping.{held_plans}
use Rattle.snapshots.proofs.storing.add_plans.Given as goal

-- what was added, and then what is left
abbrev pub invariant-loop-piece : goal.invariant-loop-piece
invariant-loop-piece l =
    listed l.entries.items ++ into_iter_items l.piece-iterator ≡ listed l.fn.entries.items ++ plan_entries l.held.0 (held_plans l.held)
