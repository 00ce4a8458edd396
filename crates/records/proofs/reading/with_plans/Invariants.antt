use Rattle.std.proofs.Common.{◌≡◌, ◌≤◌, ℕ, List, ◌++◌, map, drop, length}
use Rattle.std.specs.List.{AllByRecursion}
use Rattle.std.specs.Vec.Iter.{into_iter_items}
use Rattle.names.specs.Key.{Key}
use Rattle.histories.specs.declared.stored.Stored.{Stored}
use Rattle.pages.specs.Page.{Entry}
use Rattle.records.specs.declared.object.StoredObject.{StoredObject}
use Rattle.records.specs.Entries.{stored_entry, plans_among}
use Rattle.records.specs.Holding.{HasFewPlans}
use Rattle.records.specs.EntryLaws.{bytes_beside}
use Rattle.records.specs.Reading.{entry_read, IsReadObject, IsStorableStored, AreFollowed}
use Rattle.records.proofs.reading.with_plans.Given as goal

-- The objects that are left, and the entries that are left, are those of the objects after the ones so far.
abbrev pub Ahead : (all : List (Key × Stored (List ℕ))) (rest : List Entry) (kept : List (Key × Stored (List ℕ))) (left : List StoredObject) (entries : List Entry) → Type 0
Ahead all rest kept left entries =
    (more : List (Key × Stored (List ℕ))) × (all ≡ kept ++ more) × AreFollowed more rest × (map stored_entry more ≡ map entry_read left) × (plans_among bytes_beside more ++ rest ≡ entries)

abbrev pub invariant-loop-object : goal.invariant-loop-object
invariant-loop-object l =
    let left : List StoredObject = into_iter_items l.object-iterator in
    (l.at ≤ length l.entries)
    × (map stored_entry l.kept.items ++ map entry_read left ≡ map entry_read l.fn.objects.items)
    × (AllByRecursion IsReadObject l.fn.objects.items → AllByRecursion IsStorableStored l.kept.items × AllByRecursion IsReadObject left)
    × (plans_among bytes_beside l.kept.items ++ drop l.at l.entries ≡ l.entries)
    × AllByRecursion (HasFewPlans bytes_beside) l.kept.items
    × ((os : List (Key × Stored (List ℕ))) (rest : List Entry) → AllByRecursion IsReadObject l.fn.objects.items → AreFollowed os rest
    → map stored_entry os ≡ map entry_read l.fn.objects.items → plans_among bytes_beside os ++ rest ≡ l.entries
    → Ahead os rest l.kept.items left (drop l.at l.entries))
