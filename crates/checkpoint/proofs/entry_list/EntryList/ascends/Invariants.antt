use Rattle.std.proofs.Common.{◌≡◌, ◌≤◌, true, take}
use Rattle.std.specs.FinMap.{is_sorted}
use Rattle.pages.specs.Page.{bytes_cmp}
use Rattle.checkpoint.specs.EntryList.{entries_of}
use Rattle.checkpoint.proofs.entry_list.EntryList.ascends.Given as goal

abbrev pub invariant-loop-at : goal.invariant-loop-at
invariant-loop-at l = (1 ≤ l.at) × (is_sorted bytes_cmp (take l.at (entries_of l.self)) ≡ true)
