-- The form of stored documents.
use Rattle.std.specs.Prelude.{◌≡◌, List, ℕ, codes, IsTrue, Option, Some, None}
use Rattle.names.specs.declared.resource.Scope.{Scope}
use Rattle.names.specs.declared.resource.Scope.TheVariants.{Namespaced, Cluster}
use Rattle.names.specs.Key.{Key, is_key}
use Rattle.names.specs.Resource.{row}
use Rattle.jsondoc.specs.Json.{IsDocument}
use Rattle.documents.specs.Document.{Document, metadata_of, metadata_text, is_metadata, has_kind}

abbrev pub namespace_at : Scope → List ℕ → Option (List ℕ)
namespace_at Namespaced namespace = Some namespace
namespace_at Cluster namespace = None

-- A stored document: its text reads back to it, and its kind, name and namespace are those of its well-formed key.
pub record HasForm (k : Key) (d : Document) : Type 0 where
  pub key : IsTrue (is_key k)
  pub reads_back : IsDocument d.json
  pub kind : IsTrue (has_kind k.resource d.json)
  pub metadata : IsTrue (is_metadata (metadata_of d.json))
  pub name : metadata_text (codes "name") d.json ≡ Some k.name
  pub namespace : metadata_text (codes "namespace") d.json ≡ namespace_at (row k.resource).scope k.namespace
  pub no_version : metadata_text (codes "resourceVersion") d.json ≡ None
