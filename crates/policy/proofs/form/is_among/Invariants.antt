use Rattle.std.proofs.Common.{◌≡◌, map, drop}
use Rattle.documents.specs.Selecting.{is_among}
use Rattle.policy.proofs.form.is_among.Given as goal

-- what is left decides
abbrev pub invariant-loop-known : goal.invariant-loop-known
invariant-loop-known l = is_among (map (λ n. n.now) (drop l.known-index l.names)) l.name ≡ is_among (map (λ n. n.now) l.names) l.name
