use Rattle.std.proofs.Common.{◌≡◌, ◌++◌, map, drop}
use Rattle.checkpoint.specs.EntryList.{listed}
use Rattle.records.specs.Entries.{stored_entry}
use Rattle.snapshots.proofs.storing.add_objects.Given as goal

-- what was added, and then what is left
abbrev pub invariant-loop-held : goal.invariant-loop-held
invariant-loop-held l =
    listed l.entries.items ++ map stored_entry (drop l.held-index l.objects) ≡ listed l.fn.entries.items ++ map stored_entry l.objects
