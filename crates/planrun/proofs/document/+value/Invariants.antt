use Rattle.std.proofs.Common.{◌≡◌, ◌++◌, drop}
use Rattle.serde_json.specs.View.{items_view, members_view}
use Rattle.celmean.specs.Seen.{values_seen, entries_seen}
use Rattle.planrun.specs.Documents.{item_values, member_values}
use Rattle.planrun.proofs.document.+value.Given as goal

-- what is there, and the values of what is left, are all values
abbrev pub invariant-values_of_items-loop-item : goal.invariant-values_of_items-loop-item
invariant-values_of_items-loop-item l =
    values_seen l.values.items ++ item_values (items_view (drop l.item-index l.item-items)) ≡ item_values (items_view l.item-items)

abbrev pub invariant-values_of_members-loop-name : goal.invariant-values_of_members-loop-name
invariant-values_of_members-loop-name l =
    entries_seen l.entries.items ++ member_values (members_view l.name-iterator) ≡ member_values (members_view l.members.entries)
