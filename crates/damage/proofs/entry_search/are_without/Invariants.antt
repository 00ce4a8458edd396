use Rattle.std.proofs.Common.{take}
use Rattle.damage.specs.Entries.{AreWithout}
use Rattle.damage.proofs.entry_search.are_without.Given as goal

-- none of the entries so far has the key
abbrev pub invariant-each : goal.invariant-each
invariant-each l = AreWithout l.key (take l.entry-index l.entries)
