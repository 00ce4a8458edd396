use Rattle.std.proofs.Common.{◌≡◌, ◌+◌, ◌≤◌, drop}
use Rattle.paged.specs.Chosen.{rules_among}
use Rattle.paged.proofs.chosen.rules_among.Given as goal

-- those so far, and those among the entries that are left
abbrev pub invariant-loop-entry : goal.invariant-loop-entry
invariant-loop-entry l = record {
  counted : l.count + rules_among (drop l.entry-index l.entries) ≡ rules_among l.entries;
  few : l.count ≤ l.entry-index;
}
