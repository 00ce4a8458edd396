use Rattle.std.proofs.Common.{◌≡◌, ◌≤◌, length, drop}
use Rattle.celmean.specs.Value.{Gives, Mapping, mapping}
use Rattle.celmean.specs.Collections.{map_of}
use Rattle.celmean.specs.Seen.{entries_seen, outcome_pairs_seen}
use Rattle.celmean.proofs.collections.map_of.Given as goal

abbrev pub invariant-entries : goal.invariant-entries
invariant-entries l = record {
  within : l.left ≤ length l.outcomes.items;
  after : map_of (outcome_pairs_seen (drop l.left l.outcomes.items)) ≡ Gives (Mapping (mapping (entries_seen l.entries.items)));
}

abbrev pub decreases-entries : goal.decreases-entries
decreases-entries l = l.left
