-- The namespaces in which objects stand, where these are objects.
use Rattle.std.specs.Prelude.{ℕ, List, [], Bool, false, not, ◌&&◌, Option, Some, None, option_map, option_and_then}
use Rattle.std.specs.List.{list_any}
use Rattle.std.specs.Option.{option_map_or}
use Rattle.std.specs.Str.{bytes_eq}
use Rattle.serde_json.specs.Data.{Data}
use Rattle.names.specs.declared.format.Rules.{Rules}
use Rattle.names.specs.Format.{has_namespaces}
use Rattle.names.specs.Key.{Key, key_of}
use Rattle.names.specs.Resource.{row}
use Rattle.names.specs.declared.resource.Resource.{Resource}
use Rattle.names.specs.declared.resource.Resource.TheVariants.{Namespace}
use Rattle.names.specs.declared.resource.Scope.{Scope}
use Rattle.names.specs.declared.resource.Scope.TheVariants.{Namespaced, Cluster}
use Rattle.documents.specs.Document.{shown}
use Rattle.histories.specs.View as seen
use Rattle.histories.specs.View.{stored_at, exists}

-- the object at a key, as it is shown
abbrev pub shown_at : {P : Type 0} → seen.View P → Key → Option Data
shown_at v k = option_map (λ s. shown s.document s.revision) (stored_at v k)

-- the key of the Namespace in which the object of a key stands, if its resource is namespaced
abbrev pub namespace_key_in : Scope → (namespace : List ℕ) → Option Key
namespace_key_in Namespaced namespace = Some (key_of Namespace [] namespace)
namespace_key_in Cluster namespace = None

abbrev pub namespace_key : Key → Option Key
namespace_key k = namespace_key_in (row k.resource).scope k.namespace

-- the Namespace, as it is shown, if it is there
abbrev pub namespace_shown : {P : Type 0} → seen.View P → Key → Option Data
namespace_shown v k = option_and_then (λ it. shown_at v it) (namespace_key k)

-- an object of the key would stand in a namespace that is not there, where namespaces are objects
abbrev pub lacks_namespace : {P : Type 0} → Rules → seen.View P → Key → Bool
lacks_namespace rules v k = has_namespaces rules.format && option_map_or (λ it. not (exists v it)) (namespace_key k) false

-- an object of the key stands in the namespace
abbrev pub lies_in : Scope → (namespace name : List ℕ) → Bool
lies_in Namespaced namespace name = bytes_eq namespace name
lies_in Cluster namespace name = false

abbrev pub stands_in : (name : List ℕ) → Key → Bool
stands_in name k = lies_in (row k.resource).scope k.namespace name

-- an object stands in the namespace
abbrev pub holds_objects : {P : Type 0} → seen.View P → (name : List ℕ) → Bool
holds_objects v name = list_any (λ o. stands_in name o.0) v.objects

-- the key is that of a Namespace in which an object stands
abbrev pub is_kept : {P : Type 0} → seen.View P → Resource → (name : List ℕ) → Bool
is_kept v Namespace name = holds_objects v name
is_kept v r name = false

abbrev pub is_in_use : {P : Type 0} → seen.View P → Key → Bool
is_in_use v k = is_kept v k.resource k.name
