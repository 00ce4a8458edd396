use Rattle.std.proofs.Common.{◌≡◌, map, drop}
use Rattle.std.specs.List.{list_all}
use Rattle.policy.specs.Policies.{names_of, is_filled}
use Rattle.policy.specs.Spec.{named_seen}
use Rattle.policy.proofs.named.have_text.Given as goal

-- what is left decides
abbrev pub invariant-loop-condition : goal.invariant-loop-condition
invariant-loop-condition l = list_all is_filled (names_of (map named_seen (drop l.condition-index l.conditions))) ≡ list_all is_filled (names_of (map named_seen l.conditions))
