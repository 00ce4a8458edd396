-- Entries each of which has a change, and how many a value is.
use Rattle.std.specs.Prelude.{◌≡◌, ℕ, List, Option, Some, None, IsTrue}
use Rattle.names.specs.declared.resource.Resource.{Resource}
use Rattle.names.specs.Key.{Key}
use Rattle.objects.specs.Objects.{value_at, is_of}

module _ {X : Type 0} where
  -- one value, or none
  abbrev pub count_of : Option X → ℕ
  count_of (Some value) = 1
  count_of None = 0

  -- Each entry of a resource has a change: where a key has none, no entry stands under it.
  abbrev pub AreCovered : Resource → List (Key × Option X) → List (Key × X) → Type 0
  AreCovered resource changes base = (key : Key) → IsTrue (is_of resource None key) → value_at key changes ≡ None → value_at key base ≡ None
