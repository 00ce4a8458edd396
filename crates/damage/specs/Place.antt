-- Where a store is damaged, and how that is told.
use Rattle.std.specs.Prelude.{◌≡◌, ◌+◌, ◌*◌, ◌⊎◌, ℕ, List, [], ◌∷◌, ◌++◌, codes, decimal}
use Rattle.byteorder.specs.Endian.{big_bytes}
use Rattle.names.specs.Key.{Key, key_bytes}
use Rattle.names.specs.declared.resource.Resource.TheVariants.{ValidatingAdmissionPolicy}
use Rattle.names.specs.Resource.{row}
use Rattle.roots.specs.declared.root.Root.{Root}
use Rattle.roots.specs.Root.{HoldsRoot}
use Rattle.damage.specs.declared.place.Place.{Place}
use Rattle.damage.specs.declared.place.Place.TheVariants as place
use Rattle.damage.specs.Pages.{IsFirstDamaged}
use Rattle.damage.specs.Entries.{HasDamagedEntry, HasLonePlans}
use Rattle.damage.specs.Parts.{HasUnjoinedPart, HasUnjoinedPlans}
use Rattle.damage.specs.Plans.{HasOtherPlans, PutsOtherPlans}
use Rattle.damage.specs.Records.{IsFirstDamagedRecord}

-- The damage is there: in the first page that is damaged; in what stands under the key of an object or of an event, or in its chunks; in the plans of an object, which do not join, are of
-- no policy, or are not those of its expressions; in the first record that is damaged.
abbrev pub IsAt : (content : List ℕ) → Root → Place → Type 0
IsAt content root (place.Page number sector) = IsFirstDamaged content root number × (sector ≡ root.first_sector + 64 * number)
IsAt content root (place.Object key) = HasDamagedEntry content root (1 ∷ key_bytes key) ⊎ HasUnjoinedPart content root ((1 ∷ key_bytes key) ++ 0 ∷ [])
IsAt content root (place.Event revision) = HasDamagedEntry content root (3 ∷ big_bytes 8 revision) ⊎ HasUnjoinedPart content root (3 ∷ big_bytes 8 revision)
IsAt content root (place.Plans key) = HasUnjoinedPlans content root key ⊎ HasLonePlans content root key ⊎ HasOtherPlans content root key ⊎ PutsOtherPlans content root key
IsAt content root (place.Record sector) = IsFirstDamagedRecord content root sector

-- It is there for the root that counts.
pub record IsDamagedAt (content : List ℕ) (p : Place) : Type 0 where
  pub root : Root
  pub holds : HoldsRoot content root
  pub there : IsAt content root p

-- the key of an entry in the pages that a place names
abbrev pub Names : Place → (key : List ℕ) → Type 0
Names (place.Page number sector) key = ⊥
Names (place.Object k) key = key ≡ 1 ∷ key_bytes k
Names (place.Event revision) key = key ≡ 3 ∷ big_bytes 8 revision
Names (place.Plans k) key = ⊥
Names (place.Record sector) key = ⊥

-- what stands in front of the numbers of the parts that a place names
abbrev pub NamesParts : Place → (stem : List ℕ) → Type 0
NamesParts (place.Page number sector) stem = ⊥
NamesParts (place.Object k) stem = stem ≡ (1 ∷ key_bytes k) ++ 0 ∷ []
NamesParts (place.Event revision) stem = stem ≡ 3 ∷ big_bytes 8 revision
NamesParts (place.Plans k) stem = (k.resource ≡ ValidatingAdmissionPolicy) × (stem ≡ (2 ∷ k.name) ++ 0 ∷ [])
NamesParts (place.Record sector) stem = ⊥

-- ---- of which damage a place is told

abbrev pub IsPage : Place → Type 0
IsPage (place.Page number sector) = Unit {0}
IsPage (place.Object k) = ⊥
IsPage (place.Event revision) = ⊥
IsPage (place.Plans k) = ⊥
IsPage (place.Record sector) = ⊥

-- of what stands in the pages
abbrev pub IsEntry : Place → Type 0
IsEntry (place.Page number sector) = ⊥
IsEntry (place.Object k) = Unit {0}
IsEntry (place.Event revision) = Unit {0}
IsEntry (place.Plans k) = Unit {0}
IsEntry (place.Record sector) = ⊥

abbrev pub ArePlans : Place → Type 0
ArePlans (place.Page number sector) = ⊥
ArePlans (place.Object k) = ⊥
ArePlans (place.Event revision) = ⊥
ArePlans (place.Plans k) = Unit {0}
ArePlans (place.Record sector) = ⊥

abbrev pub IsRecord : Place → Type 0
IsRecord (place.Page number sector) = ⊥
IsRecord (place.Object k) = ⊥
IsRecord (place.Event revision) = ⊥
IsRecord (place.Plans k) = ⊥
IsRecord (place.Record sector) = Unit {0}

-- ---- how it is told

-- a resource's name, a namespace if there is one, and a name, as in a path
abbrev pub joined_path : (plural namespace name : List ℕ) → List ℕ
joined_path plural [] name = plural ++ (codes "/" ++ name)
joined_path plural (c ∷ cs) name = plural ++ (codes "/" ++ ((c ∷ cs) ++ (codes "/" ++ name)))

abbrev pub key_path : Key → List ℕ
key_path key = joined_path (row key.resource).plural key.namespace key.name

-- as 'page 3 at sector 200', 'configmaps/default/a', 'event 17', 'plans of validatingadmissionpolicies/p', 'record at sector 9'
abbrev pub place_text : Place → List ℕ
place_text (place.Page number sector) = codes "page " ++ (decimal number ++ (codes " at sector " ++ decimal sector))
place_text (place.Object key) = key_path key
place_text (place.Event revision) = codes "event " ++ decimal revision
place_text (place.Plans key) = codes "plans of " ++ key_path key
place_text (place.Record sector) = codes "record at sector " ++ decimal sector
