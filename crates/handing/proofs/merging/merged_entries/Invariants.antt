use Rattle.std.proofs.Common.{◌≡◌, ◌≤◌, length, List, IsTrue}
use Rattle.std.specs.FinMap.{is_sorted}
use Rattle.std.specs.Vec.Iter.{into_iter_items}
use Rattle.names.specs.Key.{Key, key_cmp}
use Rattle.histories.specs.declared.stored.Stored.{Stored}
use Rattle.checkpoint.specs.EntryList.{listed}
use Rattle.handing.specs.Cells.{cells_in, stored_cells}
use Rattle.handing.proofs.HandedOn.{HandsOn}
use Rattle.handing.proofs.merging.merged_entries.Given as goal

abbrev pub invariant-loop-key : goal.invariant-loop-key
invariant-loop-key g l =
    (l.done ≤ length l.changes)
    × ((base : List (Key × Stored g.row.P.Denot)) → cells_in l.fn.cells.items ≡ stored_cells base → IsTrue (is_sorted key_cmp base) → IsTrue (is_sorted key_cmp l.changes)
    → HandsOn l.changes base l.done (into_iter_items l.key-iterator) (listed l.entries.items))
