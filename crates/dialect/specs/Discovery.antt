-- What tells a Kubernetes client which resources there are (Kubernetes API concepts, "Discovery API" and "OpenAPI V3"), and its version: constant texts.
use Rattle.std.specs.Prelude.{ℕ, Bool, false, not, List, [], ◌∷◌, ◌++◌, map, filter, ◌&&◌, codes, if◌then◌else◌, Option, Some, None}
use Rattle.std.specs.Str.{bytes_eq}
use Rattle.std.specs.Char.{to_ascii_lowercase}
use Rattle.names.specs.declared.format.Format.{Format}
use Rattle.names.specs.declared.resource.Resource.{Resource}
use Rattle.names.specs.declared.resource.Resource.TheVariants.{ConfigMap, Node, Pod, Service, Deployment, ValidatingAdmissionPolicy, ValidatingAdmissionPolicyBinding, Namespace}
use Rattle.names.specs.declared.resource.Scope.{Scope}
use Rattle.names.specs.declared.resource.Scope.TheVariants.{Namespaced, Cluster}
use Rattle.names.specs.Format.{has_resource}
use Rattle.names.specs.Resource.{row, resources, api_version}
use Rattle.routes.specs.Path.{parts_of, is_empty}

-- ---- the texts

-- the texts with a comma between each two
abbrev pub listed : List (List ℕ) → List ℕ
listed [] = []
listed (text ∷ []) = text
listed (text ∷ more) = text ++ (codes "," ++ listed more)

-- a JSON string of text that needs no escape
abbrev pub quoted : List ℕ → List ℕ
quoted text = codes "\"" ++ (text ++ codes "\"")

abbrev pub truth : Scope → List ℕ
truth Namespaced = codes "true"
truth Cluster = codes "false"

abbrev pub short_names : Resource → List (List ℕ)
short_names ConfigMap = codes "cm" ∷ []
short_names Node = codes "no" ∷ []
short_names Pod = codes "po" ∷ []
short_names Service = codes "svc" ∷ []
short_names Deployment = codes "deploy" ∷ []
short_names ValidatingAdmissionPolicy = []
short_names ValidatingAdmissionPolicyBinding = []
short_names Namespace = codes "ns" ∷ []

-- what is told of a resource: its names, whether it stands in namespaces, its kind, and what may be done with its objects
abbrev pub resource_text : Resource → List ℕ
resource_text r =
    codes "{\"name\":" ++ (quoted (row r).plural
    ++ (codes ",\"singularName\":" ++ (quoted (map to_ascii_lowercase (row r).kind)
    ++ (codes ",\"namespaced\":" ++ (truth (row r).scope
    ++ (codes ",\"kind\":" ++ (quoted (row r).kind
    ++ (codes ",\"verbs\":[\"create\",\"delete\",\"get\",\"list\",\"update\",\"watch\"],\"shortNames\":["
    ++ (listed (map quoted (short_names r)) ++ codes "]}")))))))))

-- the resources of a version of a group that a store of the format serves
abbrev pub resources_of : Format → (version : List ℕ) → List Resource
resources_of f version = filter (λ r. bytes_eq (api_version r) version && has_resource f r) resources

abbrev pub resources_text : Format → (version : List ℕ) → List ℕ
resources_text f version =
    codes "{\"kind\":\"APIResourceList\",\"groupVersion\":" ++ (quoted version
    ++ (codes ",\"resources\":[" ++ (listed (map resource_text (resources_of f version)) ++ codes "]}")))

-- The least that lets a client send an object without a schema to check it by: that a PATCH of each kind takes `fieldValidation`.
abbrev pub schema_text : Resource → List ℕ
schema_text r =
    quoted (codes "/" ++ (row r).kind)
    ++ (codes ":{\"patch\":{\"parameters\":[{\"in\":\"query\",\"name\":\"fieldValidation\"}],\"responses\":{},\"x-kubernetes-group-version-kind\":{\"group\":"
    ++ (quoted (row r).group ++ (codes ",\"kind\":" ++ (quoted (row r).kind ++ (codes ",\"version\":" ++ (quoted (row r).version ++ codes "}}}"))))))

abbrev pub schemas_text : Format → (version : List ℕ) → List ℕ
schemas_text f version =
    codes "{\"openapi\":\"3.0.0\",\"info\":{\"title\":\"gated\",\"version\":\"v1\"},\"paths\":{"
    ++ (listed (map schema_text (resources_of f version)) ++ codes "}}")

abbrev pub version_text : List ℕ
version_text = codes "{\"major\":\"1\",\"minor\":\"32\",\"gitVersion\":\"v1.32.0-gated\"}"

-- the versions of the core group
abbrev pub core_text : List ℕ
core_text = codes "{\"kind\":\"APIVersions\",\"versions\":[\"v1\"]}"

-- a group, and its version, which is its only one
abbrev pub group_text : (name version : List ℕ) → List ℕ
group_text name version =
    let entry = codes "{\"groupVersion\":" ++ (quoted version ++ codes ",\"version\":\"v1\"}") in
    codes "{\"name\":" ++ (quoted name ++ (codes ",\"versions\":[" ++ (entry ++ (codes "],\"preferredVersion\":" ++ (entry ++ codes "}")))))

-- the other groups
abbrev pub groups_text : List ℕ
groups_text =
    codes "{\"kind\":\"APIGroupList\",\"apiVersion\":\"v1\",\"groups\":["
    ++ (group_text (codes "apps") (codes "apps/v1")
    ++ (codes "," ++ (group_text (codes "admissionregistration.k8s.io") (codes "admissionregistration.k8s.io/v1") ++ codes "]}")))

-- where the schemas of a version are
abbrev pub schema_place : (place : List ℕ) → List ℕ
schema_place place = quoted place ++ (codes ":{\"serverRelativeURL\":" ++ (quoted (codes "/openapi/v3/" ++ place) ++ codes "}"))

abbrev pub schema_places_text : List ℕ
schema_places_text =
    codes "{\"paths\":{"
    ++ (listed (map schema_place (codes "api/v1" ∷ codes "apis/apps/v1" ∷ codes "apis/admissionregistration.k8s.io/v1" ∷ [])) ++ codes "}}")

-- no event is kept
abbrev pub no_events_text : List ℕ
no_events_text = codes "{\"apiVersion\":\"v1\",\"items\":[],\"kind\":\"EventList\",\"metadata\":{}}"

-- ---- where they are told

-- the constant at each path
abbrev pub constants : Format → List (List ℕ × List ℕ)
constants f =
    (codes "/version", version_text)
    ∷ (codes "/api", core_text)
    ∷ (codes "/api/v1", resources_text f (codes "v1"))
    ∷ (codes "/apis", groups_text)
    ∷ (codes "/apis/apps/v1", resources_text f (codes "apps/v1"))
    ∷ (codes "/apis/admissionregistration.k8s.io/v1", resources_text f (codes "admissionregistration.k8s.io/v1"))
    ∷ (codes "/openapi/v3", schema_places_text)
    ∷ (codes "/openapi/v3/api/v1", schemas_text f (codes "v1"))
    ∷ (codes "/openapi/v3/apis/apps/v1", schemas_text f (codes "apps/v1"))
    ∷ (codes "/openapi/v3/apis/admissionregistration.k8s.io/v1", schemas_text f (codes "admissionregistration.k8s.io/v1"))
    ∷ (codes "/api/v1/events", no_events_text)
    ∷ []

abbrev pub text_at : (path : List ℕ) → List (List ℕ × List ℕ) → Option (List ℕ)
text_at path [] = None
text_at path (entry ∷ entries) = if bytes_eq path entry.0 then Some entry.1 else text_at path entries

-- `/api/v1`
abbrev pub is_core : (root api version : List ℕ) → Bool
is_core root api version = is_empty root && (bytes_eq api (codes "api") && bytes_eq version (codes "v1"))

-- `namespaces/NAMESPACE/events`
abbrev pub is_of_events : (word namespace plural : List ℕ) → Bool
is_of_events word namespace plural = bytes_eq word (codes "namespaces") && (not (is_empty namespace) && bytes_eq plural (codes "events"))

-- the one, and then the other
abbrev pub are_events : (parts : List (List ℕ)) → Bool
are_events (root ∷ api ∷ version ∷ word ∷ namespace ∷ plural ∷ []) = is_core root api version && is_of_events word namespace plural
are_events other = false

-- the constant at a path, if there is one
abbrev pub constant_at : Format → (path : List ℕ) → Option (List ℕ)
constant_at f path = if are_events (parts_of path) then Some no_events_text else text_at path (constants f)
