use Rattle.std.proofs.Common.{◌≡◌, map, drop}
use Rattle.documents.specs.Requirement.{requirement_seen}
use Rattle.requests.specs.Selector.{requirements_of}
use Rattle.requests.proofs.Selecting.{followed_by}
use Rattle.requests.proofs.selector.requirements_of.Given as goal

-- what was read, and then what is left
abbrev pub invariant-loop-part : goal.invariant-loop-part
invariant-loop-part l =
    followed_by (map requirement_seen l.requirements.items) (requirements_of (map (λ part. part.now) (drop l.part-index l.parts)))
    ≡ requirements_of (map (λ part. part.now) l.parts)
