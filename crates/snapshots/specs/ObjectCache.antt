-- Objects in entries, and in the pages of a shelf on a device.
use Rattle.std.specs.Prelude.{◌≡◌, ◌≢◌, ◌==◌, ℕ, Bool, false, List, [], ◌∷◌, ◌++◌, map, Option, Some, None, IsTrue}
use Rattle.std.specs.FinMap.{is_sorted}
use Rattle.std.specs.List.{AllByRecursion, list_any}
use Rattle.byteorder.specs.Endian.{big_bytes}
use Rattle.jsondoc.specs.Json.{text}
use Rattle.device.specs.Disk.{Disk}
use Rattle.names.specs.declared.format.Format.{Format}
use Rattle.names.specs.declared.resource.Resource.{Resource}
use Rattle.names.specs.Key.{Key, key_cmp}
use Rattle.names.specs.Resource.{row}
use Rattle.objects.specs.Objects.{value_at}
use Rattle.histories.specs.declared.stored.Stored.{Stored}
use Rattle.pages.specs.Page.{Entry}
use Rattle.roots.specs.declared.root.Root.{Root}
use Rattle.shelf.specs.Prefix.{beginning}
use Rattle.shelf.specs.Shelf as shelf
use Rattle.shelf.specs.Shelf.{Shelves}
use Rattle.names.specs.Format.{has_chunks}
use Rattle.chunks.specs.Chunks.{cut_if}
use Rattle.chunks.specs.Whole.{Wholes}
use Rattle.records.specs.Entries.{object_entry}
use Rattle.records.specs.Holding.{IsStorableObject}
use Rattle.snapshots.specs.declared.cached_object.CachedObject.{CachedObject}
use Rattle.snapshots.specs.declared.object_cache.ObjectCache.{ObjectCache}

-- an object without what stands beside its document
abbrev pub plain : {P : Type 0} → Key × Stored P → Key × CachedObject
plain o = (o.0, record { document = o.1.document; revision = o.1.revision })

-- the entry of an object
abbrev pub cached_entry : Key × CachedObject → Entry
cached_entry o = object_entry o.0 o.1.document o.1.revision

-- what stands there under its key
abbrev pub cell_of : CachedObject → List ℕ
cell_of s = big_bytes 8 s.revision ++ text s.document.json

-- an object that an entry can hold
abbrev pub IsStorable : Key × CachedObject → Type 0
IsStorable o = IsStorableObject o.0 o.1.document o.1.revision

-- An entry of no object: the keys of objects' entries begin with 1.
abbrev pub IsOther : Entry → Type 0
IsOther e = (rest : List ℕ) → e.0 ≢ 1 ∷ rest

-- The entries are those of these objects, whose keys ascend, and after them others.
pub record HoldObjects (entries : List Entry) (objects : List (Key × CachedObject)) : Type 0 where
  pub rest : List Entry
  pub are : entries ≡ map cached_entry objects ++ rest
  pub other : AllByRecursion IsOther rest
  pub storable : AllByRecursion IsStorable objects
  pub ascend : IsTrue (is_sorted key_cmp objects)

-- the root whose pages have the objects
abbrev pub root_of : ObjectCache → Root
root_of cache = shelf.root_of cache.shelf

-- Each of the one is among the other objects.
abbrev pub AreAmong : List (Key × CachedObject) → List (Key × CachedObject) → Type 0
AreAmong some objects = (key : Key) (s : CachedObject) → value_at key some ≡ Some s → value_at key objects ≡ Some s

-- The pages hold these objects on the device, among which are those that were found.
pub record ObjectCaches {D : Type 0} (disk : Disk D) (device : D) (cache : ObjectCache) (objects : List (Key × CachedObject)) : Type 0 where
  pub entries : List Entry
  pub shelves : Wholes disk device cache.shelf entries
  pub hold : HoldObjects entries objects
  pub found : AreAmong cache.found.entries objects

-- The entries are those of these objects, and no others.
pub record AreOf (entries : List Entry) (objects : List (Key × CachedObject)) : Type 0 where
  pub are : entries ≡ map cached_entry objects
  pub storable : AllByRecursion IsStorable objects

-- The entries are what those of these objects are cut to, and no others.
pub record AreCutOf (cutting : Bool) (entries : List Entry) (objects : List (Key × CachedObject)) : Type 0 where
  pub are : entries ≡ cut_if cutting (map cached_entry objects)
  pub storable : AllByRecursion IsStorable objects

-- Those of the entries that have an object's key are what those of objects are cut to, as a format has them.
abbrev pub AreObjects : Format → List Entry → Type 0
AreObjects format entries = (objects : List (Key × CachedObject)) × AreCutOf (has_chunks format) (beginning (1 ∷ []) entries) objects

-- The pages hold these entries on the device, whatever they are of.
abbrev pub HasEntries : {D : Type 0} → Disk D → D → ObjectCache → List Entry → Type 0
HasEntries disk device cache entries = Shelves disk device cache.shelf entries

-- With what the keys of a resource's entries begin, in one namespace if one is given.
abbrev pub prefix_of : Resource → (namespace : Option (List ℕ)) → List ℕ
prefix_of resource None = 1 ∷ (row resource).number ∷ []
prefix_of resource (Some namespace) = 1 ∷ (row resource).number ∷ namespace ++ 0 ∷ []

-- a text is given that has a zero byte
abbrev pub has_zero : Option (List ℕ) → Bool
has_zero None = false
has_zero (Some text) = list_any (λ byte. byte == 0) text
