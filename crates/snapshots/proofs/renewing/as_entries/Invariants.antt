use Rattle.std.proofs.Common.{◌≡◌, ◌++◌}
use Rattle.std.specs.Vec.Iter.{into_iter_items}
use Rattle.checkpoint.specs.EntryList.{listed}
use Rattle.snapshots.proofs.renewing.as_entries.Given as goal

-- what was made, and then what is left
abbrev pub invariant-loop-key : goal.invariant-loop-key
invariant-loop-key l = l.entries.items ++ listed (into_iter_items l.key-iterator) ≡ listed l.fn.pairs.items
