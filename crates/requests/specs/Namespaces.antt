-- Namespaces that are put where namespaces become objects: one for each that objects stand in.
use Rattle.std.specs.Prelude.{ℕ, List, [], ◌∷◌, codes, map}
use Rattle.std.specs.Cmp.Lexicographic.{slice_cmp}
use Rattle.std.specs.FinMap.{put as put_entry}
use Rattle.std.specs.Ordering.{nat_cmp}
use Rattle.serde_json.specs.Data.{string}
use Rattle.names.specs.declared.resource.Resource.TheVariants.{Namespace}
use Rattle.names.specs.declared.resource.Scope.{Scope}
use Rattle.names.specs.declared.resource.Scope.TheVariants.{Namespaced, Cluster}
use Rattle.names.specs.Key.{Key, key_of}
use Rattle.names.specs.Resource.{row}
use Rattle.documents.specs.Document.{Document, object_of}
use Rattle.histories.specs.declared.stored.Stored.{Stored}
use Rattle.histories.specs.History.{Write, put}
use Rattle.histories.specs.View.{View}

-- the document of a Namespace of which only the name is told
abbrev pub namespace_document : (name : List ℕ) → Document
namespace_document name = record {
  json =
      object_of (
      (codes "apiVersion", string (codes "v1"))
      ∷ (codes "kind", string (codes "Namespace"))
      ∷ (codes "metadata", object_of ((codes "name", string name) ∷ []))
      ∷ []);
}

-- the names, and the namespace of an object where it stands in one
abbrev pub and_name : Scope → (namespace : List ℕ) → List (List ℕ × Unit {0}) → List (List ℕ × Unit {0})
and_name Namespaced namespace names = put_entry (slice_cmp nat_cmp) namespace tt names
and_name Cluster namespace names = names

-- the namespaces that objects stand in, ascending by their bytes, each once
abbrev pub names_among : {P : Type 0} → List (Key × Stored P) → List (List ℕ × Unit {0})
names_among [] = []
names_among (o ∷ os) = and_name (row o.0.resource).scope o.0.namespace (names_among os)

abbrev pub namespaces_in_use : {P : Type 0} → View P → List (List ℕ)
namespaces_in_use v = map (λ n. n.0) (names_among v.objects)

-- the writes that put Namespaces of these names, each with what stands beside its document
abbrev pub namespace_puts : {P : Type 0} → (beside : Document → P) → (names : List (List ℕ)) → List (Write P)
namespace_puts beside names = map (λ n. put (key_of Namespace [] n) (namespace_document n) (beside (namespace_document n))) names
