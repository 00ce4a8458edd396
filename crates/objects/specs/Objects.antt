-- Objects by key: a finite map, as its entries ascending by key.
use Rattle.std.specs.Prelude.{ℕ, Bool, not, ◌&&◌, ◌==◌, List, Option, None, Some}
use Rattle.std.specs.FinMap.{find, put}
use Rattle.std.specs.List.{filter}
use Rattle.std.specs.Ordering.{eq_by_cmp}
use Rattle.std.specs.Str.{bytes_eq}
use Rattle.names.specs.declared.resource.Resource.{Resource}
use Rattle.names.specs.Key.{Key, key_cmp}
use Rattle.names.specs.Resource.{row}

-- what is stored under each key, ascending by key, and for how many more keys there is room
pub record Objects (X : Type 0) : Type 0 where
  pub entries : List (Key × X)
  pub room : ℕ

module _ {X : Type 0} where
  -- what is stored under a key
  abbrev pub value_at : Key → List (Key × X) → Option X
  value_at key entries = find key_cmp key entries

  -- the entries with this value under the key, in its place
  abbrev pub with_value : Key → X → List (Key × X) → List (Key × X)
  with_value key value entries = put key_cmp key value entries

  -- the entries of the other keys
  abbrev pub without_key : Key → List (Key × X) → List (Key × X)
  without_key key entries = filter (λ entry. not (eq_by_cmp key_cmp key entry.0)) entries

-- a key of this resource, in this namespace if one is given
abbrev pub is_of : Resource → Option (List ℕ) → Key → Bool
is_of resource None key = (row key.resource).number == (row resource).number
is_of resource (Some namespace) key = (row key.resource).number == (row resource).number && bytes_eq key.namespace namespace
