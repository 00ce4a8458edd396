-- Where the keys of a resource in a namespace stand among ascending keys.
use Rattle.std.specs.Prelude.{◌≡◌, ℕ, true, false, List}
use Rattle.std.specs.Cmp.Lexicographic.{slice_cmp}
use Rattle.std.specs.List.Sorted.{IsPartitionPoint}
use Rattle.std.specs.Ordering.{nat_cmp, ordering_then, is_lt, is_le}
use Rattle.std.specs.declared.cmp.Ordering.{Ordering}
use Rattle.names.specs.declared.resource.Resource.{Resource}
use Rattle.names.specs.Key.{Key}
use Rattle.names.specs.Resource.{row}

-- how a key stands to them: below all, among them, or above all
abbrev pub place_of : Resource → (namespace : List ℕ) → Key → Ordering
place_of resource namespace key = ordering_then (nat_cmp (row key.resource).number (row resource).number) (slice_cmp nat_cmp key.namespace namespace)

module _ {X : Type 0} where
  -- the entries before this place are below them, those from it on are not
  abbrev pub StartsAt : List (Key × X) → Resource → (namespace : List ℕ) → ℕ → Type 0
  StartsAt entries resource namespace place =
      IsPartitionPoint (λ entry. is_lt (place_of resource namespace entry.0) ≡ true) (λ entry. is_lt (place_of resource namespace entry.0) ≡ false) entries place

  -- the entries before this place are below or among them, those from it on are above
  abbrev pub EndsAt : List (Key × X) → Resource → (namespace : List ℕ) → ℕ → Type 0
  EndsAt entries resource namespace place =
      IsPartitionPoint (λ entry. is_le (place_of resource namespace entry.0) ≡ true) (λ entry. is_le (place_of resource namespace entry.0) ≡ false) entries place
