-- Collections: the objects of a resource, in one namespace or in all (Kubernetes API concepts, "Resource URIs").
use Rattle.std.specs.Prelude.{ℕ, List, Bool, Option, option_map, string_bytes}
use Rattle.names.specs.declared.resource.Resource.{Resource}
use Rattle.names.specs.Key.{Key}
use Rattle.objects.specs.Objects.{is_of}
use Rattle.requests.specs.declared.collection.Collection as code

-- a resource, and the namespace, where one is given
pub record Collection : Type 0 where
  pub resource : Resource
  pub namespace : Option (List ℕ)

-- the key is that of an object of the collection
abbrev pub has_key : Collection → Key → Bool
has_key c k = is_of c.resource c.namespace k

-- the collection that the code's struct stands for
abbrev pub collection_of : code.Collection → Collection
collection_of c = record { resource = c.resource; namespace = option_map string_bytes c.namespace }
