use Rattle.std.proofs.Common.{◌≡◌, ◌++◌, map, drop}
use Rattle.std.specs.List.{filter_map}
use Rattle.policy.specs.Spec.{wanted_seen}
use Rattle.verdict.specs.LookupSeen.{listed_seen}
use Rattle.apicore.specs.Wanted.{if_wanted}
use Rattle.apicore.proofs.wanted.wanted_among.Given as goal

-- those so far, and then those of the rest
abbrev pub invariant-loop-entry : goal.invariant-loop-entry
invariant-loop-entry l =
    l.documents.items ++ filter_map (if_wanted (wanted_seen l.wanted)) (map listed_seen (drop l.entry-index l.listed))
    ≡ filter_map (if_wanted (wanted_seen l.wanted)) (map listed_seen l.listed)
