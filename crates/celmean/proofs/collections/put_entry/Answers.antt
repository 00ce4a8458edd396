use Rattle.celmean.specs.Seen.{entries_seen}
use Rattle.celmean.proofs.Lists.{entries-mapping}
use Rattle.celmean.proofs.collections.put_entry.Goals as goal

pub returns-in-Gives-value : goal.returns-in-Gives-value
returns-in-Gives-value c = rw (c.in-Gives.is, c.in-Gives-value.is, entries-mapping (entries_seen c.args.entries.items)) c.with_entry.ensures
