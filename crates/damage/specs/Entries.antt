-- Which entries in the pages of a root are of nothing.
use Rattle.std.specs.Prelude.{◌≡◌, ◌≢◌, ℕ, List, [], ◌∷◌, ◌++◌, Contains}
use Rattle.byteorder.specs.Endian.{big_bytes}
use Rattle.names.specs.declared.resource.Resource.TheVariants.{ValidatingAdmissionPolicy}
use Rattle.names.specs.Key.{Key, key_bytes}
use Rattle.window.specs.declared.event.Event.{Event}
use Rattle.documents.specs.Document.{Document}
use Rattle.pages.specs.Page.{Entry}
use Rattle.roots.specs.declared.root.Root.{Root}
use Rattle.checkpoint.specs.Pages.{joined, pages_of_root}
use Rattle.records.specs.Entries.{object_entry, event_entry}
use Rattle.records.specs.Holding.{IsStorableObject, IsStorableEvent}
use Rattle.chunks.specs.Chunks.{cut}

-- The entry is none of the plans of a policy, whose keys begin with 2, and no object and no event that a store holds has it.
pub record IsOfNothing (entry : Entry) : Type 0 where
  pub no_plans : (rest : List ℕ) → entry.0 ≢ 2 ∷ rest
  pub no_object : (k : Key) (d : Document) (revision : ℕ) → IsStorableObject k d revision → object_entry k d revision ≢ entry
  pub no_event : (e : Event Document) → IsStorableEvent e → event_entry e ≢ entry

-- One of these entries has this key, and is of nothing.
pub record IsOneOfNothing (entries : List Entry) (key : List ℕ) : Type 0 where
  pub before : List Entry
  pub value : List ℕ
  pub after : List Entry
  pub are : entries ≡ before ++ (key, value) ∷ after
  pub damaged : IsOfNothing (key, value)

-- The pages of the root hold whole entries, as its format has them, and the one with this key is of nothing.
pub record HasDamagedEntry (content : List ℕ) (root : Root) (key : List ℕ) : Type 0 where
  pub whole : List Entry
  pub are : cut root.label.format whole ≡ joined (pages_of_root root content)
  pub damaged : IsOneOfNothing whole key

-- The entry is a piece of the plans of this policy.
pub record IsPieceOf (policy : Key) (entry : Entry) : Type 0 where
  pub is_policy : policy.resource ≡ ValidatingAdmissionPolicy
  pub number : ℕ
  pub key : entry.0 ≡ ((2 ∷ policy.name) ++ 0 ∷ []) ++ big_bytes 2 number

-- No entry stands under the key of this object.
abbrev pub AreWithout : Key → List Entry → Type 0
AreWithout k entries = (entry : Entry) → Contains entries entry → entry.0 ≢ 1 ∷ key_bytes k

-- A piece of the plans of this policy is among these entries, and the policy is not.
pub record IsLone (entries : List Entry) (policy : Key) : Type 0 where
  pub piece : Entry
  pub there : Contains entries piece
  pub is_piece : IsPieceOf policy piece
  pub without : AreWithout policy entries

-- The pages of the root hold whole entries, as its format has them, and there plans of this policy are, but not the policy.
pub record HasLonePlans (content : List ℕ) (root : Root) (policy : Key) : Type 0 where
  pub whole : List Entry
  pub are : cut root.label.format whole ≡ joined (pages_of_root root content)
  pub lone : IsLone whole policy
