use Rattle.std.proofs.Common.{rules, ◌≡◌, ◌∙◌, List, map, ap, sym}
use Rattle.serde_json.specs.Data.{member}
use Rattle.serde_json.specs.View.{view, members_view}
use Rattle.documents.specs.Requirement.{requirement_seen}
use Rattle.documents.specs.declared.requirement.Requirement as code
use Rattle.policy.specs.Forms.{after}
use Rattle.policy.specs.MatchRules.{labels_of}
use Rattle.policy.proofs.Gathering.{label_read}
use Rattle.policy.proofs.selector.requirements_of_labels.Goals as goal

pub loop-key-preserved : goal.loop-key-preserved
loop-key-preserved c =
    let read = c.loop-key.requirements.items in
    let rest = members_view c.next.new.self in
    let before : labels_of (members_view c.args.members.now.entries) ≡ after (map requirement_seen read) (labels_of (member c.as_str.result.now (view c.in-Some.member.now) rest)) = search rules in
    label_read _ read c.in_ok-label.field-0 c.as_str.result.now (view c.in-Some.member.now) rest c.in_ok-label.ensures.read before
    ∙ ap (λ (rs : List code.Requirement). after (map requirement_seen rs) (labels_of rest)) (sym c.in_ok-push.ensures.items)
