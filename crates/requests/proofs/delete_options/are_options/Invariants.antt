use Rattle.std.proofs.Common.{◌≡◌}
use Rattle.serde_json.specs.View.{members_view}
use Rattle.documents.specs.Document.{each_member}
use Rattle.requests.specs.DeleteOptions.{is_option}
use Rattle.requests.proofs.delete_options.are_options.Given as goal

-- what is left decides
abbrev pub invariant-loop-name : goal.invariant-loop-name
invariant-loop-name l = each_member is_option (members_view l.name-iterator) ≡ each_member is_option (members_view l.members.entries)
