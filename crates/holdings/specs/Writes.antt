-- What is to be put, and what is to be deleted.
use Rattle.std.specs.Prelude.{Option}
use Rattle.names.specs.Key.{Key}
use Rattle.window.specs.declared.event.Change.{Change}
use Rattle.documents.specs.Document.{Document}
use Rattle.histories.specs.declared.stored.Stored.{Stored}

-- a put: the key, what is to stand under it, and how that changes what stands there
pub record Put (P : Type 0) : Type 0 where
  pub key : Key
  pub stored : Option (Stored P)
  pub change : Change

-- a deletion: the key, and the document that it removes
pub record Deletion : Type 0 where
  pub key : Key
  pub document : Document
