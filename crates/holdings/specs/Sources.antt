-- What is found in a source.
use Rattle.std.specs.Prelude.{ℕ, Bool, not, ◌&&◌, List, Option, Some, is_some}
use Rattle.names.specs.declared.resource.Resource.{Resource}
use Rattle.names.specs.Key.{Key}
use Rattle.objects.specs.Objects.{value_at, is_of}
use Rattle.histories.specs.declared.stored.Stored.{Stored}
use Rattle.holdings.specs.declared.source.FoundDocument.{FoundDocument}

-- an object that is found has its document and its revision
abbrev pub found_in : {P : Type 0} → Stored P → FoundDocument
found_in s = record { document = s.document; revision = s.revision }

-- a key of the resource in the namespace that has none of the changes
abbrev pub is_unchanged : {X : Type 0} → Resource → (namespace : List ℕ) → (changes : List (Key × Option X)) → Key → Bool
is_unchanged resource namespace changes key = is_of resource (Some namespace) key && not (is_some (value_at key changes))
