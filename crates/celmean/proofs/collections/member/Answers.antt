use Rattle.celmean.specs.Seen.{entries_seen}
use Rattle.celmean.proofs.Lists.{entries-mapping}
use Rattle.celmean.proofs.Inside.{value_of-Map}
use Rattle.celmean.proofs.collections.member.Goals as goal

pub returns-in_ok-key-in-Map : goal.returns-in_ok-key-in-Map
returns-in_ok-key-in-Map c =
    rw (c.in-Map.is, value_of-Map c.in-Map.entries, entries-mapping (entries_seen c.in-Map.entries.value.items), ← c.in_ok-key-in-Map.ensures, ← c.deref.ensures, ← c.lookup.ensures) c.copy_or_error.ensures
