use Rattle.std.proofs.Common.{◌≡◌, map, drop}
use Rattle.documents.specs.Selecting.{is_among}
use Rattle.policy.specs.Policies.{names_of}
use Rattle.policy.specs.Spec.{named_seen}
use Rattle.policy.proofs.named.has_name.Given as goal

-- what is left decides
abbrev pub invariant-loop-other : goal.invariant-loop-other
invariant-loop-other l = is_among (names_of (map named_seen (drop l.other-index l.named))) l.name ≡ is_among (names_of (map named_seen l.named)) l.name
