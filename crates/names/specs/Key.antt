-- Keys of objects, their order, and their bytes.
use Rattle.std.specs.Prelude.{ℕ, Bool, List, ◌∷◌, ◌++◌, ◌&&◌, ◌==◌, length}
use Rattle.std.specs.Ordering.{nat_cmp, ordering_then}
use Rattle.std.specs.Cmp.Lexicographic.{slice_cmp}
use Rattle.std.specs.declared.cmp.Ordering.{Ordering}
use Rattle.names.specs.declared.resource.Resource.{Resource}
use Rattle.names.specs.declared.resource.Resource.TheVariants.{Namespace}
use Rattle.names.specs.declared.resource.Scope.{Scope}
use Rattle.names.specs.declared.resource.Scope.TheVariants.{Namespaced, Cluster}
use Rattle.names.specs.Name.{is_namespace, is_name}
use Rattle.names.specs.Resource.{row}

-- the key of an object: its resource, its namespace (empty where the resource is cluster-scoped) and its name
pub record Key : Type 0 where
  pub resource : Resource
  pub namespace : List ℕ
  pub name : List ℕ

-- the key of these parts
abbrev pub key_of : Resource → List ℕ → List ℕ → Key
key_of resource namespace name = record { resource = resource; namespace = namespace; name = name }

-- a namespaced resource has a well-formed namespace, a cluster-scoped one has none
abbrev pub fits_scope : Scope → List ℕ → Bool
fits_scope Namespaced namespace = is_namespace namespace
fits_scope Cluster namespace = length namespace == 0

-- the text may name an object of the resource: the name of a Namespace is a namespace
abbrev pub is_name_of : Resource → List ℕ → Bool
is_name_of Namespace name = is_namespace name
is_name_of r name = is_name name

-- a well-formed key
abbrev pub is_key : Key → Bool
is_key key = fits_scope (row key.resource).scope key.namespace && is_name_of key.resource key.name

-- by number of the resource, then by namespace, then by name, both by bytes
abbrev pub key_cmp : Key → Key → Ordering
key_cmp a b =
    ordering_then (nat_cmp (row a.resource).number (row b.resource).number)
    (ordering_then (slice_cmp nat_cmp a.namespace b.namespace) (slice_cmp nat_cmp a.name b.name))

-- the bytes of a key: the resource's number, the namespace, a zero byte, the name
abbrev pub key_bytes : Key → List ℕ
key_bytes key = (row key.resource).number ∷ key.namespace ++ 0 ∷ key.name
