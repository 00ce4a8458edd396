-- What stands under the keys of objects, as bytes.
use Rattle.std.specs.Prelude.{◌≡◌, ℕ, List, ◌∷◌, ◌++◌, map, Option, IsTrue}
use Rattle.std.specs.FinMap.{is_sorted}
use Rattle.std.specs.declared.alloc.Global.{Global}
use Rattle.std.specs.declared.vec.Vec.{Vec}
use Rattle.byteorder.specs.Endian.{big_bytes}
use Rattle.jsondoc.specs.Json.{text}
use Rattle.names.specs.Key.{Key, key_cmp}
use Rattle.objects.specs.Merged.{merged}
use Rattle.objects.specs.Steps.{NoneBelow, AllAbove}
use Rattle.histories.specs.declared.stored.Stored.{Stored}
use Rattle.pages.specs.Page.{Entry}
use Rattle.records.specs.Entries.{stored_entry}

-- cells as they lie in memory, each with its object's key
abbrev pub cells_in : List (Key × Vec ℕ Global) → List (Key × List ℕ)
cells_in pairs = map (λ pair. (pair.0, pair.1.items)) pairs

module _ {P : Type 0} where
  -- the cells that the entries of objects have
  abbrev pub stored_cells : List (Key × Stored P) → List (Key × List ℕ)
  stored_cells objects = map (λ o. (o.0, big_bytes 8 o.1.revision ++ text o.1.document.json)) objects

-- To entries were added such that, with what the changes that are left make of any further objects, they are what all these changes make of an object and of
-- those: it is the first of them, and none of the changes is below it.
pub record Adds {P : Type 0} (old new : List Entry) (changes left : List (Key × Option (Stored P))) (o : Key × Stored P) : Type 0 where
  pub objects : List (Key × Stored P)
  pub added : new ≡ old ++ map stored_entry objects
  pub are : (base : List (Key × Stored P)) → IsTrue (is_sorted key_cmp changes) → NoneBelow o.0 changes → AllAbove o.0 base
      → objects ++ merged left base ≡ merged changes (o ∷ base)
