use Rattle.std.proofs.Common.{◌≡◌, ◌++◌, map, drop}
use Rattle.apicore.specs.StoreLookups.{entry_held}
use Rattle.verdict.specs.LookupSeen.{listed_seen}
use Rattle.apicore.proofs.store_lookup.all_lent.Given as goal

-- those lent, and then those that are left
abbrev pub invariant-loop-object : goal.invariant-loop-object
invariant-loop-object l = map listed_seen l.listed.items ++ map entry_held (drop l.object-index l.objects) ≡ map entry_held l.objects
