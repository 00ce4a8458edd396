-- What is read from entries, part by part.
use Rattle.std.specs.Prelude.{◌≡◌, ◌≢◌, ◌<◌, ◌≤◌, ◌-◌, ◌^◌, ℕ, List, [], ◌∷◌, ◌++◌, length, true}
use Rattle.std.specs.List.{AllByRecursion}
use Rattle.std.specs.FinMap.Entries.{below_all}
use Rattle.names.specs.Key.{Key}
use Rattle.requests.specs.Codes.{document_in}
use Rattle.names.specs.declared.resource.Resource.TheVariants.{ValidatingAdmissionPolicy}
use Rattle.window.specs.Window.{AreNumberedFrom}
use Rattle.histories.specs.declared.stored.Stored.{Stored}
use Rattle.histories.specs.View.{View}
use Rattle.pages.specs.Page.{Entry, bytes_cmp}
use Rattle.records.specs.declared.object.StoredObject.{StoredObject}
use Rattle.records.specs.Entries.{object_entry, plan_entry, plans_among}
use Rattle.records.specs.Holding.{IsStorableObject, IsStorableEvent, HasFewPlans}
use Rattle.records.specs.EntryLaws.{bytes_beside}

-- the entry that an object was read from
abbrev pub entry_read : StoredObject → Entry
entry_read o = object_entry o.manifest.key (document_in o.manifest.body) o.revision

abbrev pub IsReadObject : StoredObject → Type 0
IsReadObject o = IsStorableObject o.manifest.key (document_in o.manifest.body) o.revision

-- an object that an entry can hold, whatever stands beside it
abbrev pub IsStorableStored : Key × Stored (List ℕ) → Type 0
IsStorableStored o = IsStorableObject o.0 o.1.document o.1.revision

-- The first of these entries, if there is one, is no object's: objects' keys begin with 1.
abbrev pub BeginsOtherwise : List Entry → Type 0
BeginsOtherwise [] = Unit {0}
BeginsOtherwise (e ∷ es) = (rest : List ℕ) → e.0 ≢ 1 ∷ rest

-- The first of these entries, if there is one, is not the piece of a policy's plans with this number, of which there are 65536.
abbrev pub BeginsWithout : Key → (piece : ℕ) → List Entry → Type 0
BeginsWithout k piece [] = Unit {0}
BeginsWithout k piece (e ∷ es) = piece < 65536 → e.0 ≢ (plan_entry k [] piece).0

-- These entries are above each piece of a policy's plans.
abbrev pub AreAbove : Key → List Entry → Type 0
AreAbove k es = (piece : ℕ) → below_all bytes_cmp (plan_entry k [] piece).0 es ≡ true

-- An object with this key may have these plans, in front of these entries: a policy's plans are in front of what is above them, and other objects
-- have none.
abbrev pub ArePlans : Key → (plans : List ℕ) → (rest : List Entry) → Type 0
ArePlans k plans rest = (length plans ≤ 2 ^ 30) × (k.resource ≡ ValidatingAdmissionPolicy → AreAbove k rest) × (plans ≢ [] → k.resource ≡ ValidatingAdmissionPolicy)

-- So may each of these objects have its plans, in front of those of the objects after it and of these entries.
abbrev pub AreFollowed : List (Key × Stored (List ℕ)) → List Entry → Type 0
AreFollowed [] rest = Unit {0}
AreFollowed (o ∷ os) rest = IsStorableStored o × ArePlans o.0 o.1.beside (plans_among bytes_beside os ++ rest) × AreFollowed os rest

-- A view as it is read from entries: each object and each event is one that an entry can hold, with plans as it may have them, and the revisions of
-- the events count up to the view's.
pub record IsReadView (v : View (List ℕ)) : Type 0 where
  pub objects : AllByRecursion IsStorableStored v.objects
  pub few : AllByRecursion (HasFewPlans bytes_beside) v.objects
  pub events : AllByRecursion IsStorableEvent v.events
  pub numbered : AreNumberedFrom (v.revision - length v.events) v.events
