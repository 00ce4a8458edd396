use Rattle.std.proofs.Common.{◌≡◌}
use Rattle.serde_json.specs.View.{members_view}
use Rattle.documents.specs.Document.{each_member, is_metadata_member}
use Rattle.documents.proofs.metadata.are_metadata_members.Given as goal

-- what is left decides
abbrev pub invariant-loop-name : goal.invariant-loop-name
invariant-loop-name l =
    each_member is_metadata_member (members_view l.name-iterator) ≡ each_member is_metadata_member (members_view l.members.entries)
