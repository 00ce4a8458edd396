use Rattle.std.proofs.Common.{◌≡◌, map}
use Rattle.serde_json.specs.View.{members_view}
use Rattle.documents.specs.Requirement.{requirement_seen}
use Rattle.policy.specs.MatchRules.{labels_of}
use Rattle.policy.specs.Forms.{after}
use Rattle.policy.proofs.selector.requirements_of_labels.Given as goal

-- what was read, and then what is left
abbrev pub invariant-loop-key : goal.invariant-loop-key
invariant-loop-key l =
    labels_of (members_view l.members.entries) ≡ after (map requirement_seen l.requirements.items) (labels_of (members_view l.key-iterator))
