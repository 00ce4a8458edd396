use Rattle.std.proofs.Common.{◌≡◌, ◌++◌, map, drop}
use Rattle.checkpoint.specs.EntryList.{listed}
use Rattle.objects.specs.Steps.{puts_of}
use Rattle.records.specs.Entries.{stored_entry}
use Rattle.handing.proofs.merging.add_puts.Given as goal

-- what was added, and then what is left
abbrev pub invariant-loop-change : goal.invariant-loop-change
invariant-loop-change g l =
    listed l.entries.items ++ map stored_entry (puts_of (drop l.change-index l.changes)) ≡ listed l.fn.entries.items ++ map stored_entry (puts_of l.changes)
