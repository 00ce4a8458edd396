use Rattle.std.proofs.Common.{refl}
use Rattle.celmean.specs.Seen.{values_seen, entries_seen}
use Rattle.celmean.proofs.Lists.{items-sequence, entries-mapping, is_some-option_map}
use Rattle.celmean.proofs.Inside.{value_of-Bool, value_of-List, value_of-Map}
use Rattle.celmean.proofs.collections.contained.Goals as goal

pub returns-in-List : goal.returns-in-List
returns-in-List c = rw (value_of-Bool c.is_among.result, c.in-List.is, value_of-List c.in-List.items, items-sequence (values_seen c.in-List.items.value.items), ← c.deref.ensures, c.is_among.ensures) refl

pub returns-in-Map : goal.returns-in-Map
returns-in-Map c =
    rw (value_of-Bool c.is_some.result, c.in-Map.is, value_of-Map c.in-Map.entries, entries-mapping (entries_seen c.in-Map.entries.value.items), ← c.deref-in-Map.ensures, ← c.lookup.ensures, is_some-option_map, c.is_some.ensures) refl
