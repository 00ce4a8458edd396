use Rattle.std.proofs.Common.{◌≡◌, map, drop}
use Rattle.std.specs.List.{list_all}
use Rattle.celtokens.specs.Word.{is_identifier}
use Rattle.policy.specs.Policies.{names_of}
use Rattle.policy.specs.Spec.{named_seen}
use Rattle.policy.proofs.named.are_identifiers.Given as goal

-- what is left decides
abbrev pub invariant-loop-variable : goal.invariant-loop-variable
invariant-loop-variable l = list_all is_identifier (names_of (map named_seen (drop l.variable-index l.variables))) ≡ list_all is_identifier (names_of (map named_seen l.variables))
