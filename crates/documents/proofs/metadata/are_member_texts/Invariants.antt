use Rattle.std.proofs.Common.{◌≡◌}
use Rattle.serde_json.specs.View.{members_view}
use Rattle.documents.specs.Document.{each_member, is_text}
use Rattle.documents.proofs.metadata.are_member_texts.Given as goal

-- what is left decides
abbrev pub invariant-loop-value : goal.invariant-loop-value
invariant-loop-value l =
    each_member (λ _ value. is_text value) (members_view l.value-iterator) ≡ each_member (λ _ value. is_text value) (members_view l.members.entries)
