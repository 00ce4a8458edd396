-- What stands round the items of a list.
use Rattle.std.specs.Prelude.{ℕ, [], ◌∷◌, ◌++◌, codes, decimal}
use Rattle.serde_json.specs.Data.{Data, string}
use Rattle.names.specs.declared.resource.Resource.{Resource}
use Rattle.names.specs.Resource.{row, api_version}
use Rattle.documents.specs.Document.{object_of}

-- the list of a resource at a revision, without its items
abbrev pub list_frame : Resource → (revision : ℕ) → Data
list_frame r revision =
    object_of (
    (codes "apiVersion", string (api_version r))
    ∷ (codes "kind", string ((row r).kind ++ codes "List"))
    ∷ (codes "metadata", object_of ((codes "resourceVersion", string (decimal revision)) ∷ []))
    ∷ [])
