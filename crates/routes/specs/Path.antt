-- Where the target of a request points (RFC 9112 section 3.2.1).
use Rattle.std.specs.Prelude.{ℕ, Bool, false, List, [], ◌∷◌, ◌++◌, length, find, ◌==◌, ◌||◌, codes, if◌then◌else◌, Option, Some, None, option_and_then}
use Rattle.std.specs.List.{slice_split, before_first, after_first}
use Rattle.std.specs.Option.{option_map_or}
use Rattle.std.specs.Str.{bytes_eq}
use Rattle.names.specs.declared.format.Format.{Format}
use Rattle.names.specs.declared.resource.Resource.{Resource}
use Rattle.names.specs.declared.resource.Resource.TheVariants.{ConfigMap, Node, Pod, Service, Deployment, ValidatingAdmissionPolicy, ValidatingAdmissionPolicyBinding, Namespace}
use Rattle.names.specs.declared.resource.Scope.{Scope}
use Rattle.names.specs.declared.resource.Scope.TheVariants.{Namespaced, Cluster}
use Rattle.names.specs.Format.{has_resource}
use Rattle.names.specs.Resource.{row}
use Rattle.requests.specs.Manifest.{Target, target}

abbrev pub question_mark : ℕ
question_mark = 63

abbrev pub slash : ℕ
slash = 47

-- the path of a target: what stands before its first question mark (RFC 3986 section 3.3)
abbrev pub path_of : List ℕ → List ℕ
path_of text = before_first (λ byte. byte == question_mark) text

-- the query of a target: what stands after its first question mark (RFC 3986 section 3.4)
abbrev pub query_of : List ℕ → List ℕ
query_of text = after_first (λ byte. byte == question_mark) text

-- the parts of a path, between its slashes
abbrev pub parts_of : List ℕ → List (List ℕ)
parts_of path = slice_split (λ byte. byte == slash) path

abbrev pub is_empty : List ℕ → Bool
is_empty text = length text == 0

-- ---- the pieces of a path

-- What the parts of a path say: the API group, which paths of the core group leave out, its version, a resource's plural, and
-- perhaps a namespace and a name (Kubernetes API concepts, "Resource URIs").
pub record Pieces : Type 0 where
  pub group : Option (List ℕ)
  pub version : List ℕ
  pub namespace : Option (List ℕ)
  pub plural : List ℕ
  pub name : Option (List ℕ)

abbrev pub pieces : (group : Option (List ℕ)) → (version : List ℕ) → (namespace : Option (List ℕ)) → (plural : List ℕ) → (name : Option (List ℕ)) → Pieces
pieces group version namespace plural name = record { group = group; version = version; namespace = namespace; plural = plural; name = name }

-- `PLURAL`, `PLURAL/NAME`, `namespaces/NAMESPACE/PLURAL` or `namespaces/NAMESPACE/PLURAL/NAME` in a version of a group
abbrev pub pieces_under : (group : Option (List ℕ)) → (version : List ℕ) → List (List ℕ) → Option Pieces
pieces_under group version (plural ∷ []) = Some (pieces group version None plural None)
pieces_under group version (plural ∷ name ∷ []) = Some (pieces group version None plural (Some name))
pieces_under group version (word ∷ namespace ∷ plural ∷ []) =
    if bytes_eq word (codes "namespaces") then Some (pieces group version (Some namespace) plural None) else None
pieces_under group version (word ∷ namespace ∷ plural ∷ name ∷ []) =
    if bytes_eq word (codes "namespaces") then Some (pieces group version (Some namespace) plural (Some name)) else None
pieces_under group version other = None

-- the version of a named group
abbrev pub pieces_in : (group : List ℕ) → List (List ℕ) → Option Pieces
pieces_in group (version ∷ rest) = pieces_under (Some group) version rest
pieces_in group [] = None

-- the parts after a path's first slash: `api` begins those of the core group, `apis` those of the others
abbrev pub pieces_after : List (List ℕ) → Option Pieces
pieces_after (word ∷ part ∷ rest) =
    if bytes_eq word (codes "api") then pieces_under None part rest else (if bytes_eq word (codes "apis") then pieces_in part rest else None)
pieces_after other = None

-- a path begins with a slash
abbrev pub pieces_of : List (List ℕ) → Option Pieces
pieces_of (root ∷ rest) = if is_empty root then pieces_after rest else None
pieces_of [] = None

-- ---- the table of routes

-- the path of all objects of a resource, without namespace and name: `/api/VERSION/PLURAL` or `/apis/GROUP/VERSION/PLURAL`
abbrev pub literal : (group : Option (List ℕ)) → (version plural : List ℕ) → List ℕ
literal None version plural = codes "/api/" ++ (version ++ (codes "/" ++ plural))
literal (Some group) version plural = codes "/apis/" ++ (group ++ (codes "/" ++ (version ++ (codes "/" ++ plural))))

-- the group of a resource, as its paths have it
abbrev pub path_group : List ℕ → Option (List ℕ)
path_group [] = None
path_group (byte ∷ group) = Some (byte ∷ group)

abbrev pub literal_of : Resource → List ℕ
literal_of r = literal (path_group (row r).group) (row r).version (row r).plural

-- the resources, in the order of their paths
abbrev pub served : List Resource
served = ConfigMap ∷ Namespace ∷ Node ∷ Pod ∷ Service ∷ ValidatingAdmissionPolicy ∷ ValidatingAdmissionPolicyBinding ∷ Deployment ∷ []

-- the resource whose literal path this is
abbrev pub resource_at : List ℕ → Option Resource
resource_at path = find (λ r. bytes_eq (literal_of r) path) served

-- the resource that a store of a format serves at this literal path
abbrev pub resource_of : Format → (path : List ℕ) → Option Resource
resource_of format path = option_and_then (λ r. if has_resource format r then Some r else None) (resource_at path)

-- ---- where a path points

-- Where a path points: to the objects of a namespaced resource in all namespaces, or to another collection or an item of it.
pub data PathPlace : Type 0 where
  everywhere : Resource → PathPlace
  within : Target → PathPlace

-- the resource whose objects stand at a place
abbrev pub resource_in : PathPlace → Resource
resource_in (everywhere r) = r
resource_in (within t) = t.resource

-- a place of a resource: namespaced objects stand in a namespace, and the others in none
abbrev pub in_scope : Scope → Resource → (namespace name : Option (List ℕ)) → Option PathPlace
in_scope Namespaced r (Some namespace) name = Some (within (target r namespace name))
in_scope Namespaced r None None = Some (everywhere r)
in_scope Namespaced r None (Some name) = None
in_scope Cluster r None name = Some (within (target r [] name))
in_scope Cluster r (Some namespace) name = None

-- a namespace or a name that is there is not empty
abbrev pub is_left_out : Option (List ℕ) → Bool
is_left_out piece = option_map_or is_empty piece false

-- where the pieces of a path point, if a store of the format serves that
abbrev pub place_of : Format → Pieces → Option PathPlace
place_of format p =
    if is_left_out p.namespace || is_left_out p.name then None
    else option_and_then (λ r. in_scope (row r).scope r p.namespace p.name) (resource_of format (literal p.group p.version p.plural))

-- where the parts of a path point, if a store of the format serves that
abbrev pub place_at : Format → List (List ℕ) → Option PathPlace
place_at format parts = option_and_then (place_of format) (pieces_of parts)
