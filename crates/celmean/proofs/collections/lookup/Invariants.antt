use Rattle.std.proofs.Common.{◌≡◌, drop}
use Rattle.celmean.specs.Collections.{lookup}
use Rattle.celmean.specs.Seen.{value_of, entries_seen}
use Rattle.celmean.proofs.collections.lookup.Given as goal

abbrev pub invariant-loop-found : goal.invariant-loop-found
invariant-loop-found l = lookup (value_of l.key) (entries_seen (drop l.found-index l.entries.items)) ≡ lookup (value_of l.key) (entries_seen l.entries.items)
