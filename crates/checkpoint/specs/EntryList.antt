-- Entries that lie in memory.
use Rattle.std.specs.Prelude.{ℕ, List, map}
use Rattle.std.specs.declared.alloc.Global.{Global}
use Rattle.std.specs.declared.vec.Vec.{Vec}
use Rattle.pages.specs.Page.{Entry}
use Rattle.checkpoint.specs.declared.entry_list.EntryList.{EntryList}

-- Pairs of texts as entries.
abbrev pub listed : List (Vec ℕ Global × Vec ℕ Global) → List Entry
listed pairs = map (λ pair. (pair.0.items, pair.1.items)) pairs

-- The entries of a list, in the order that they have there.
abbrev pub entries_of : EntryList → List Entry
entries_of list = listed list.entries.items
