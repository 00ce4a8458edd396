-- What changes leave of entries.
use Rattle.std.specs.Prelude.{List, [], ◌∷◌, Option, Some, None}
use Rattle.names.specs.Key.{Key}
use Rattle.objects.specs.Objects.{with_value, without_key}

module _ {X : Type 0} where
  -- the entries with this value under the key, or with none
  abbrev pub changed : Key → Option X → List (Key × X) → List (Key × X)
  changed key (Some value) entries = with_value key value entries
  changed key None entries = without_key key entries

  -- what changes leave: each is one of what those after it leave
  abbrev pub merged : List (Key × Option X) → List (Key × X) → List (Key × X)
  merged [] base = base
  merged (change ∷ changes) base = changed change.0 change.1 (merged changes base)

  -- a change comes before what was there
  abbrev pub over : Option (Option X) → Option X → Option X
  over (Some change) found = change
  over None found = found
