-- Where a key stands among ascending entries, or would stand.
use Rattle.std.specs.Prelude.{◌≡◌, ℕ, ◌<◌, ◌≤◌, List, ◌∷◌, ◌++◌, length}
use Rattle.std.specs.List.{AllByRecursion}
use Rattle.std.specs.List.Sorted.{IsPartitionPoint}
use Rattle.std.specs.declared.cmp.Ordering.TheVariants.{Less, Greater}
use Rattle.names.specs.declared.resource.Resource.{Resource}
use Rattle.names.specs.Key.{Key, key_cmp}
use Rattle.names.specs.Resource.{row}

module _ {X : Type 0} where
  -- all keys are below this one
  abbrev pub AllBelow : Key → List (Key × X) → Type 0
  AllBelow key entries = AllByRecursion (λ entry. key_cmp key entry.0 ≡ Greater) entries

  -- all keys are above this one
  abbrev pub AllAbove : Key → List (Key × X) → Type 0
  AllAbove key entries = AllByRecursion (λ entry. key_cmp key entry.0 ≡ Less) entries

-- the entry of the key stands at this place
pub record StandsAt {X : Type 0} (entries : List (Key × X)) (key : Key) (place : ℕ) : Type 0 where
  pub front : List (Key × X)
  pub value : X
  pub back : List (Key × X)
  pub split : entries ≡ front ++ (key, value) ∷ back
  pub length_front : length front ≡ place
  pub below : AllBelow key front
  pub above : AllAbove key back

-- no entry has the key, and one would stand at this place
pub record IsGap {X : Type 0} (entries : List (Key × X)) (key : Key) (place : ℕ) : Type 0 where
  pub front : List (Key × X)
  pub back : List (Key × X)
  pub split : entries ≡ front ++ back
  pub length_front : length front ≡ place
  pub below : AllBelow key front
  pub above : AllAbove key back

-- the entries before this place are of resources before this one, those from it on are not
abbrev pub IsBefore : {X : Type 0} → List (Key × X) → Resource → ℕ → Type 0
IsBefore entries resource place =
    IsPartitionPoint (λ entry. (row entry.0.resource).number < (row resource).number) (λ entry. (row resource).number ≤ (row entry.0.resource).number) entries place

-- the entries before this place are of this resource or of those before, those from it on are not
abbrev pub IsUpTo : {X : Type 0} → List (Key × X) → Resource → ℕ → Type 0
IsUpTo entries resource place =
    IsPartitionPoint (λ entry. (row entry.0.resource).number ≤ (row resource).number) (λ entry. (row resource).number < (row entry.0.resource).number) entries place
