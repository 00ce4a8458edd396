use Rattle.std.proofs.Common.{refl}
use Rattle.celmean.specs.Seen.{entries_seen}
use Rattle.celmean.proofs.Lists.{entries-mapping, is_some-option_map}
use Rattle.celmean.proofs.Inside.{value_of-Bool, value_of-Map}
use Rattle.celmean.proofs.collections.has_member.Goals as goal

pub returns-in_ok-key-in-Map : goal.returns-in_ok-key-in-Map
returns-in_ok-key-in-Map c =
    rw (value_of-Bool c.is_some.result, c.in-Map.is, value_of-Map c.in-Map.entries, entries-mapping (entries_seen c.in-Map.entries.value.items), ← c.in_ok-key-in-Map.ensures, ← c.deref.ensures, ← c.lookup.ensures, is_some-option_map, c.is_some.ensures) refl
