use Rattle.std.proofs.Common.{rules, w64}
use Rattle.std.proofs.lemmas.Int.{to_z-of_z}
use Rattle.celmean.specs.Seen.{values_seen, entries_seen}
use Rattle.celmean.proofs.Lists.{items-sequence, entries-mapping}
use Rattle.celmean.proofs.Inside.{value_of-Int, value_of-List, value_of-Map}
use Rattle.celmean.proofs.collections.indexed.Goals as goal
use mir.Val.{SFits}

pub returns-in-Int : goal.returns-in-Int
returns-in-Int c =
    let fits : SFits w64 c.in-Int.place = search rules in
    let found = simp to_z-of_z at c.item_at.ensures in
    rw (c.in-List.is, c.in-Int.is, value_of-List c.in-List.items, value_of-Int c.in-Int.place, items-sequence (values_seen c.in-List.items.value.items), ← c.deref.ensures, ← found) c.copy_or_error.ensures

pub returns-in-Map : goal.returns-in-Map
returns-in-Map c =
    rw (c.in-Map.is, value_of-Map c.in-Map.entries, entries-mapping (entries_seen c.in-Map.entries.value.items), ← c.deref-in-Map.ensures, ← c.lookup.ensures) c.copy_or_error-in-Map.ensures
