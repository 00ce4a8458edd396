-- Requests, as a message spells them.
use Rattle.std.specs.Prelude.{ℕ, List, IsTrue, Option}
use Rattle.requests.specs.declared.refusal.Refusal.{Refusal}
use Rattle.requests.specs.Collection.{Collection}
use Rattle.requests.specs.Manifest.{Manifest, BodyHasForm}
use Rattle.documents.specs.Requirement.{Requirement}
use Rattle.names.specs.Key.{Key, is_key}

pub data Request : Type 0 where
  get : Key → Request
  -- the objects of a collection that meet each requirement
  list : Collection → List Requirement → Request
  -- the events of a collection above a revision
  watch : Collection → (revision : ℕ) → Request
  create : Manifest → Request
  -- to put the manifest's document in place of the object with its key
  replace : Manifest → Request
  -- with the text of the revision that the object is to have, if one is asked for
  delete : Key → Option (List ℕ) → Request
  -- refused by the message alone
  refused : Refusal → Request

-- the documents of a request have the form of stored ones, and the key of a deletion is well-formed
abbrev pub RequestHasForm : Request → Type 0
RequestHasForm (get k) = Unit {0}
RequestHasForm (list c selector) = Unit {0}
RequestHasForm (watch c revision) = Unit {0}
RequestHasForm (create m) = BodyHasForm m.key m.body
RequestHasForm (replace m) = BodyHasForm m.key m.body
RequestHasForm (delete k asked) = IsTrue (is_key k)
RequestHasForm (refused r) = Unit {0}
