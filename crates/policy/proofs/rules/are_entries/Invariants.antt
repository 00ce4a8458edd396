use Rattle.std.proofs.Common.{◌≡◌, map, drop, string_bytes}
use Rattle.std.specs.List.{list_all}
use Rattle.policy.specs.MatchRules.{is_entry}
use Rattle.policy.proofs.rules.are_entries.Given as goal

-- what is left decides
abbrev pub invariant-loop-name : goal.invariant-loop-name
invariant-loop-name l = list_all is_entry (map string_bytes (drop l.name-index l.names)) ≡ list_all is_entry (map string_bytes l.names)
