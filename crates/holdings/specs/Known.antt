-- What memory knows of a store whose objects lie below.
use Rattle.std.specs.Prelude.{◌≡◌, List, None}
use Rattle.names.specs.Key.{Key}
use Rattle.objects.specs.Objects.{value_at}
use Rattle.histories.specs.declared.stored.Stored.{Stored}
use Rattle.holdings.specs.Holdings.{State}

-- Memory knows what stands under a key: where the key has no change, nothing lies below under it.
abbrev pub IsKnown : {P : Type 0} → State P → List (Key × Stored P) → Key → Type 0
IsKnown s base k = value_at k s.changes.made ≡ None → value_at k base ≡ None

-- what one knows the other does, over the same objects
abbrev pub KnowsSame : {P : Type 0} → State P → State P → Type 0
KnowsSame {P} s t = (base : List (Key × Stored P)) (k : Key) → IsKnown s base k → IsKnown t base k
