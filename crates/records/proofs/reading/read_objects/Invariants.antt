use Rattle.std.proofs.Common.{◌≡◌, map, take}
use Rattle.std.specs.List.{AllByRecursion}
use Rattle.records.specs.Reading.{entry_read, IsReadObject}
use Rattle.records.proofs.reading.read_objects.Given as goal

-- the objects so far are those of the entries so far
abbrev pub invariant-loop-entry : goal.invariant-loop-entry
invariant-loop-entry l = (map entry_read l.objects.items ≡ take l.entry-index l.entries) × AllByRecursion IsReadObject l.objects.items
