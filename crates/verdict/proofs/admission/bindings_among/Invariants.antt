use Rattle.std.proofs.Common.{◌≡◌, ◌++◌, map, drop}
use Rattle.std.specs.List.{filter_map}
use Rattle.verdict.specs.LookupSeen.{listed_seen}
use Rattle.verdict.specs.Turns.{held_binding}
use Rattle.verdict.proofs.admission.bindings_among.Given as goal

-- those so far, and then those of the rest
abbrev pub invariant-loop-entry : goal.invariant-loop-entry
invariant-loop-entry l =
    l.bindings.items ++ filter_map held_binding (map listed_seen (drop l.entry-index l.listed)) ≡ filter_map held_binding (map listed_seen l.listed)
