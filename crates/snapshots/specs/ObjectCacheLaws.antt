-- What is promised of objects in pages.
use Rattle.std.specs.Prelude.{◌≡◌, ◌≢◌, ℕ, Bool, true, List, [], ◌∷◌, map, length}
use Rattle.std.specs.List.{AllByRecursion}
use Rattle.names.specs.declared.format.Rules.{Rules}
use Rattle.names.specs.Key.{key_bytes}
use Rattle.histories.specs.View.{View}
use Rattle.records.specs.Entries.{entries_of}
use Rattle.records.specs.Holding.{IsHoldable}
use Rattle.records.specs.EntryLaws.{bytes_beside}
use Rattle.snapshots.specs.KeptEntries.{kept_of, objects_among, chosen_of}
use Rattle.snapshots.specs.ObjectCache.{plain, HoldObjects}

-- The entries of a view hold its objects. It is stated of views with the bytes of plans beside their documents, as the laws of entries are.
abbrev pub ViewsHoldObjects : Type 0
ViewsHoldObjects = (rules : Rules) (v : View (List ℕ)) → IsHoldable bytes_beside rules v → HoldObjects (entries_of bytes_beside v) (map plain v.objects)

-- Where each object with plans is chosen, what is kept of a view's entries are the entries of what is chosen of it; and all its objects are counted.
abbrev pub KeptAreOfAView : Type 0
KeptAreOfAView =
    (chosen : List ℕ → Bool) (v : View (List ℕ)) → AllByRecursion (λ o. bytes_beside o ≢ [] → chosen (1 ∷ key_bytes o.0) ≡ true) v.objects
    → (kept_of chosen (entries_of bytes_beside v) ≡ entries_of bytes_beside (chosen_of chosen v)) × (objects_among (entries_of bytes_beside v) ≡ length v.objects)
