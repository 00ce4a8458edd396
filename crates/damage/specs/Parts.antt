-- Which parts of values in the pages of a root do not join. In a format that cuts, what stands under the key of an object or of an event stands in chunks of 8000 bytes;
-- in all formats the plans of a policy stand in pieces of 16384. The last part of a value may have fewer.
use Rattle.std.specs.Prelude.{◌≡◌, ◌≢◌, ◌<◌, ◌-◌, ◌==◌, ◌&&◌, ◌||◌, ◌⊎◌, ℕ, Bool, List, [], ◌∷◌, ◌++◌, length, if◌then◌else◌, Option, Some, None}
use Rattle.byteorder.specs.Endian.{big_bytes}
use Rattle.names.specs.Format.{has_chunks}
use Rattle.names.specs.declared.resource.Resource.TheVariants.{ValidatingAdmissionPolicy}
use Rattle.names.specs.Key.{Key}
use Rattle.pages.specs.Page.{Entry}
use Rattle.roots.specs.declared.root.Root.{Root}
use Rattle.checkpoint.specs.Pages.{joined, pages_of_root}

-- How many bytes a full part has of a value, where this stands in front of the numbers of its parts in their keys: none where a value has no parts.
abbrev pub full_of : (cuts : Bool) → (stem : List ℕ) → Option ℕ
full_of cuts [] = None
full_of cuts (mark ∷ rest) = if mark == 2 then Some 16384 else (if cuts && (mark == 1 || mark == 3) then Some 8000 else None)

-- The part with this number, behind these entries, does not join: it is empty or too long, or it is not the first, and the entry in front of it is not the part before it,
-- full.
abbrev pub DoesNotJoin : (stem : List ℕ) → (full : ℕ) → (before : List Entry) → (number : ℕ) → (value : List ℕ) → Type 0
DoesNotJoin stem full before number value =
    (length value ≡ 0) ⊎ (full < length value)
    ⊎ ((0 < number) × ((others : List Entry) (last : List ℕ) → before ≡ others ++ (stem ++ big_bytes 2 (number - 1), last) ∷ [] → length last ≢ full))

-- The entry, behind these, is such a part, with this in front of the number in its key.
pub record IsUnjoined (cuts : Bool) (before : List Entry) (entry : Entry) (stem : List ℕ) : Type 0 where
  pub full : ℕ
  pub is_full : full_of cuts stem ≡ Some full
  pub number : ℕ
  pub key : entry.0 ≡ stem ++ big_bytes 2 number
  pub damaged : DoesNotJoin stem full before number entry.1

-- Such a part stands among these entries.
pub record HasUnjoined (cuts : Bool) (entries : List Entry) (stem : List ℕ) : Type 0 where
  pub before : List Entry
  pub entry : Entry
  pub after : List Entry
  pub are : entries ≡ before ++ entry ∷ after
  pub unjoined : IsUnjoined cuts before entry stem

-- Such a part stands in the pages of the root.
abbrev pub HasUnjoinedPart : (content : List ℕ) → Root → (stem : List ℕ) → Type 0
HasUnjoinedPart content root stem = HasUnjoined (has_chunks root.label.format) (joined (pages_of_root root content)) stem

-- such a piece of the plans of this policy
abbrev pub HasUnjoinedPlans : (content : List ℕ) → Root → Key → Type 0
HasUnjoinedPlans content root key = (key.resource ≡ ValidatingAdmissionPolicy) × HasUnjoinedPart content root ((2 ∷ key.name) ++ 0 ∷ [])
