-- Changes by key over entries that lie below.
use Rattle.std.specs.Prelude.{◌≡◌, ℕ, List, Option, length, IsTrue}
use Rattle.std.specs.FinMap.{is_sorted}
use Rattle.names.specs.Key.{Key, key_cmp}
use Rattle.objects.specs.Merged.{merged}

-- what was put or removed, ascending by key, how many entries that leaves, and for how many more keys there is room
pub record Changes (X : Type 0) : Type 0 where
  pub made : List (Key × Option X)
  pub count : ℕ
  pub room : ℕ

-- Over these entries, which ascend, the changes leave those, and they are counted.
pub record Leaves {X : Type 0} (changes : Changes X) (base left : List (Key × X)) : Type 0 where
  pub ascends : IsTrue (is_sorted key_cmp base)
  pub are : merged changes.made base ≡ left
  pub counted : changes.count ≡ length left
