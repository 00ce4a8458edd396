-- The request that a message spells.
use Rattle.std.specs.Prelude.{ℕ, List, [], ◌∷◌, true, not, Option, Some, None, unwrap_or}
use Rattle.std.specs.Option.{option_map_or}
use Rattle.jsondoc.specs.Json.{Reading, not_json, not_whole, document, reading}
use Rattle.names.specs.declared.format.Format.{Format}
use Rattle.names.specs.Key.{Key, key_of}
use Rattle.names.specs.Name.{is_namespace}
use Rattle.names.specs.Resource.{row}
use Rattle.requests.specs.declared.refusal.Refusal.TheVariants.{NoSuchPath, MethodNotAllowed, BadQuery, BadNameInPath, UnexpectedBody, BadVersion, BodyIsNotJson, NumberOutsideRange}
use Rattle.requests.specs.Collection.{Collection}
use Rattle.requests.specs.DeleteOptions.{delete_body_conditions, version_of_body}
use Rattle.requests.specs.Manifest.{Target, is_target, manifest_of, body_conditions}
use Rattle.documents.specs.Form.{namespace_at}
use Rattle.requests.specs.Refusal.{Condition, first_of}
use Rattle.requests.specs.Request.{Request, get, list, watch, create, replace, delete, refused}
use Rattle.httpmsg.specs.declared.head.Method.{Method}
use Rattle.httpmsg.specs.declared.head.Method.TheVariants.{Get, Head, Post, Put, Delete, Other}
use Rattle.httpmsg.specs.Stream.{Message}
use Rattle.names.specs.declared.resource.Resource.{Resource}
use Rattle.routes.specs.Path.{path_of, query_of, parts_of, is_empty, PathPlace, everywhere, within, place_at}
use Rattle.routes.specs.Query.{has_pairs, pairs_of, Question, objects, events, question_of}

-- the first refusal whose condition holds, or else the request
abbrev pub unless_refused : List Condition → Request → Request
unless_refused conditions request = option_map_or refused (first_of conditions) request

-- ---- an item

-- each refusal of a GET or a DELETE that its target shows, in order, and whether its condition holds
abbrev pub item_conditions : Message → Target → List Condition
item_conditions m t =
    (BadQuery, has_pairs (query_of m.target))
    ∷ (BadNameInPath, not (is_target t))
    ∷ []

-- ---- GET of an item

-- the refusal of a GET that its body shows, and whether its condition holds
abbrev pub get_body_conditions : (body : List ℕ) → List Condition
get_body_conditions body = (UnexpectedBody, not (is_empty body)) ∷ []

-- the look at a key, or what refuses the body
abbrev pub look : Key → (body : List ℕ) → Request
look k body = unless_refused (get_body_conditions body) (get k)

abbrev pub get_request : Message → Target → (name : List ℕ) → Request
get_request m t name = unless_refused (item_conditions m t) (look (key_of t.resource t.namespace name) m.body)

-- ---- POST to a collection

-- each refusal of a POST or a PUT, in order, and whether its condition holds
abbrev pub object_conditions : Message → Target → List Condition
object_conditions m t = (BadQuery, has_pairs (query_of m.target)) ∷ body_conditions t m.body

-- the creation that a body asks for, if it is read
abbrev pub creation : Target → Reading → Request
creation t not_json = refused BodyIsNotJson
creation t not_whole = refused NumberOutsideRange
creation t (document json) = create (manifest_of t json)

abbrev pub create_request : Message → Target → Request
create_request m t = unless_refused (object_conditions m t) (creation t (reading m.body))

-- ---- PUT of an item

-- the replacement that a body asks for, if it is read
abbrev pub replacement : Target → Reading → Request
replacement t not_json = refused BodyIsNotJson
replacement t not_whole = refused NumberOutsideRange
replacement t (document json) = replace (manifest_of t json)

abbrev pub replace_request : Message → Target → Request
replace_request m t = unless_refused (object_conditions m t) (replacement t (reading m.body))

-- ---- DELETE of an item

-- the deletion of a key that a body asks for, or what refuses the body
abbrev pub deletion : Key → (body : List ℕ) → Request
deletion k body = unless_refused (delete_body_conditions body) (delete k (version_of_body body))

abbrev pub delete_request : Message → Target → (name : List ℕ) → Request
delete_request m t name = unless_refused (item_conditions m t) (deletion (key_of t.resource t.namespace name) m.body)

-- ---- GET of a collection

-- the collection that a target without a name is: of the resource, and of the namespace where there are namespaces
abbrev pub collection_at : Target → Collection
collection_at t = record { resource = t.resource; namespace = namespace_at (row t.resource).scope t.namespace }

-- the objects of a resource in all namespaces
abbrev pub all_of : Resource → Collection
all_of r = record { resource = r; namespace = None }

-- what a question asks of a collection, if it has what it needs
abbrev pub answering : Collection → Question → Request
answering c (objects requirements) = list c requirements
answering c (events None) = refused BadVersion
answering c (events (Some revision)) = watch c revision

-- each refusal of a GET of a collection between its query and its revision, in order, and whether its condition holds
abbrev pub collection_conditions : Message → Collection → List Condition
collection_conditions m c =
    (BadNameInPath, not (option_map_or is_namespace c.namespace true))
    ∷ (UnexpectedBody, not (is_empty m.body))
    ∷ []

-- what the query asks, or that it is refused
abbrev pub collection_request : Message → Collection → Request
collection_request m c =
    option_map_or (λ question. unless_refused (collection_conditions m c) (answering c question)) (question_of (pairs_of (query_of m.target))) (refused BadQuery)

-- ---- the table of methods

-- what a method asks of an item, if an item allows it
abbrev pub of_item : Message → Target → (name : List ℕ) → Method → Option Request
of_item m t name Get = Some (get_request m t name)
of_item m t name Head = None
of_item m t name Post = None
of_item m t name Put = Some (replace_request m t)
of_item m t name Delete = Some (delete_request m t name)
of_item m t name Other = None

-- what a method asks of a collection that is not over all namespaces, if it allows it
abbrev pub of_collection : Message → Target → Method → Option Request
of_collection m t Get = Some (collection_request m (collection_at t))
of_collection m t Head = None
of_collection m t Post = Some (create_request m t)
of_collection m t Put = None
of_collection m t Delete = None
of_collection m t Other = None

-- what a method asks of the objects of all namespaces, if they allow it
abbrev pub of_everywhere : Message → Resource → Method → Option Request
of_everywhere m r Get = Some (collection_request m (all_of r))
of_everywhere m r Head = None
of_everywhere m r Post = None
of_everywhere m r Put = None
of_everywhere m r Delete = None
of_everywhere m r Other = None

-- what a message asks of a place, if the place allows its method
abbrev pub asked_at : Message → PathPlace → Option Request
asked_at m (everywhere r) = of_everywhere m r m.method
asked_at m (within t) = option_map_or (λ name. of_item m t name m.method) t.name (of_collection m t m.method)

-- the place that a message points to, if a store of the format serves it
abbrev pub place_in : Format → Message → Option PathPlace
place_in format m = place_at format (parts_of (path_of m.target))

-- the request that a message spells to a store of a format: what its method asks of where its path points
abbrev pub asked : Format → Message → Request
asked format m = option_map_or (λ place. unwrap_or (asked_at m place) (refused MethodNotAllowed)) (place_in format m) (refused NoSuchPath)
