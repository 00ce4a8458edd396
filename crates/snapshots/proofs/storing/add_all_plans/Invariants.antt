use Rattle.std.proofs.Common.{◌≡◌, ◌++◌, drop}
use Rattle.checkpoint.specs.EntryList.{listed}
use Rattle.records.specs.Entries.{plans_among}
use Rattle.snapshots.specs.Keeping.{held_plans}
use Rattle.snapshots.proofs.storing.add_all_plans.Given as goal

-- what was added, and then what is left
abbrev pub invariant-loop-held : goal.invariant-loop-held
invariant-loop-held l =
    listed l.entries.items ++ plans_among held_plans (drop l.held-index l.objects) ≡ listed l.fn.entries.items ++ plans_among held_plans l.objects
