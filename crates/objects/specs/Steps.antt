-- Changes and entries, as they are taken in turn.
use Rattle.std.specs.Prelude.{◌≡◌, ℕ, List, [], ◌∷◌, map, take, drop, Option, Some, None}
use denote.Ref.{Bor}
use Rattle.std.specs.List.{AllByRecursion, flat_map}
use Rattle.std.specs.declared.cmp.Ordering.TheVariants.{Less}
use Rattle.names.specs.Key.{Key, key_cmp}

module _ {X : Type 0} where
  -- changes that are lent
  abbrev pub changes_of : List (Bor (Key × Option X)) → List (Key × Option X)
  changes_of lent = map (λ change. change.now) lent

  -- what a change put
  abbrev pub put_by : Key × Option X → List (Key × X)
  put_by (key, Some value) = (key, value) ∷ []
  put_by (key, None) = []

  abbrev pub puts_of : List (Key × Option X) → List (Key × X)
  puts_of changes = flat_map put_by changes

  -- the first of the changes is one of the key
  abbrev pub IsNext : Key → List (Key × Option X) → Type 0
  IsNext key [] = ⊥
  IsNext key (change ∷ changes) = change.0 ≡ key

  -- no change is below the key
  abbrev pub NoneBelow : Key → List (Key × Option X) → Type 0
  NoneBelow key changes = AllByRecursion (λ change. key_cmp change.0 key ≡ Less → ⊥) changes

  -- each entry is above the key
  abbrev pub AllAbove : Key → List (Key × X) → Type 0
  AllAbove key entries = AllByRecursion (λ entry. key_cmp key entry.0 ≡ Less) entries

-- This many changes are below the key, and no other.
pub record IsSplitAt {X : Type 0} (key : Key) (changes : List (Key × Option X)) (count : ℕ) : Type 0 where
  pub below : AllByRecursion (λ change. key_cmp change.0 key ≡ Less) (take count changes)
  pub after : NoneBelow key (drop count changes)
