use Rattle.std.proofs.Common.{◌≡◌, ◌++◌, map, drop}
use Rattle.policy.specs.Spec.{named_seen}
use Rattle.expressions.proofs.places.condition_places.Given as goal

-- what was counted, and then what is left
abbrev pub invariant-loop-condition : goal.invariant-loop-condition
invariant-loop-condition l = map (λ _. 0) (map named_seen l.conditions) ≡ l.places.items ++ map (λ _. 0) (map named_seen (drop l._condition-index l.conditions))
