-- What is made of what is stored in pages.
use Rattle.names.specs.Key.{Key}
use Rattle.documents.specs.Document.{Document}
use Rattle.histories.specs.declared.stored.Stored.{Stored}
use Rattle.holdings.specs.declared.source.FoundDocument.{FoundDocument}
use Rattle.snapshots.specs.declared.cached_object.CachedObject.{CachedObject}

-- what is found of what is stored
abbrev pub found_of : CachedObject → FoundDocument
found_of s = record { document = s.document; revision = s.revision }

-- what is stored, with what is made of its document beside it
abbrev pub stored_of : {P : Type 0} → (made : Document → P) → CachedObject → Stored P
stored_of made s = record { document = s.document; beside = made s.document; revision = s.revision }

-- an object, with what is made of its document beside it
abbrev pub whole : {P : Type 0} → (made : Document → P) → Key × CachedObject → Key × Stored P
whole made o = (o.0, stored_of made o.1)
