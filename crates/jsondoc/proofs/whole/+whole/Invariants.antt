use Rattle.std.proofs.Common.{◌≡◌, drop}
use Rattle.serde_json.specs.View.{items_view, members_view}
use Rattle.jsondoc.specs.Json.{items_are_whole, members_are_whole}
use Rattle.jsondoc.proofs.whole.+whole.Given as goal

-- what is left decides
abbrev pub invariant-items_have_whole_numbers-loop-item : goal.invariant-items_have_whole_numbers-loop-item
invariant-items_have_whole_numbers-loop-item l =
    items_are_whole (items_view (drop l.item-index l.item-items)) ≡ items_are_whole (items_view l.item-items)

abbrev pub invariant-members_have_whole_numbers-loop-member : goal.invariant-members_have_whole_numbers-loop-member
invariant-members_have_whole_numbers-loop-member l =
    members_are_whole (members_view l.member-iterator) ≡ members_are_whole (members_view l.members.entries)
