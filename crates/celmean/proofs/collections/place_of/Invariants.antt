use Rattle.std.proofs.Common.{◌≡◌, ◌++◌, ◌≤◌, length, take, drop}
use Rattle.celmean.specs.Value.{Value}
use Rattle.celmean.specs.Collections.{inserted}
use Rattle.celmean.specs.Seen.{value_of, entries_seen}
use Rattle.celmean.proofs.collections.place_of.Given as goal

abbrev pub invariant-loop-found : goal.invariant-loop-found
invariant-loop-found l = record {
  counted : l.place ≡ l.found-index;
  within : l.found-index ≤ length l.entries.items;
  onward : (v : Value) → inserted (value_of l.key) v (entries_seen l.entries.items)
      ≡ take l.found-index (entries_seen l.entries.items) ++ inserted (value_of l.key) v (drop l.found-index (entries_seen l.entries.items));
}
