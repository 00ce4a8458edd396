-- The pairs in the queries of Kubernetes clients (Kubernetes API conventions, "ListOptions", "CreateOptions", "UpdateOptions", "DeleteOptions"): which
-- ask for nothing here and are left out, and how `watch` is read.
use Rattle.std.specs.Prelude.{ℕ, Bool, false, not, List, [], ◌∷◌, ◌++◌, map, ◌&&◌, ◌||◌, codes, if◌then◌else◌, is_none}
use Rattle.std.specs.List.{list_any}
use Rattle.std.specs.Str.{bytes_eq}
use Rattle.std.specs.Char.{to_ascii_lowercase}
use Rattle.form_urlencoded.specs.Form.{extend_pairs}
use Rattle.httpmsg.specs.declared.head.Method.{Method}
use Rattle.httpmsg.specs.declared.head.Method.TheVariants.{Get, Head, Post, Put, Delete, Other}
use Rattle.routes.specs.Path.{is_empty}
use Rattle.routes.specs.Query.{Pair, is_served, truth_of}

abbrev pub is_among : (name : List ℕ) → List (List ℕ) → Bool
is_among name names = list_any (bytes_eq name) names

-- ---- the names that are left out

-- of any message: how a reply is laid out, and how long the client waits for it
abbrev pub of_any : List (List ℕ)
of_any = codes "pretty" ∷ codes "timeout" ∷ []

-- of a GET that asks for no watch: a list is told whole, and as it is now
abbrev pub of_reads : List (List ℕ)
of_reads = codes "limit" ∷ codes "resourceVersion" ∷ codes "resourceVersionMatch" ∷ []

-- of a POST and a PUT: who writes, and that members which the schema does not know are refused. There is no schema.
abbrev pub of_writes : List (List ℕ)
of_writes = codes "fieldManager" ∷ codes "fieldValidation" ∷ []

-- of a DELETE: nothing depends on an object, and none ends slowly
abbrev pub of_deletions : List (List ℕ)
of_deletions = codes "propagationPolicy" ∷ codes "gracePeriodSeconds" ∷ []

abbrev pub of_method : Method → (watches : Bool) → List (List ℕ)
of_method Get watches = if watches then [] else of_reads
of_method Head watches = []
of_method Post watches = of_writes
of_method Put watches = of_writes
of_method Delete watches = of_deletions
of_method Other watches = []

-- `resourceVersionMatch=Exact` asks for a list as it was, which is not kept
abbrev pub asks_for_the_past : Pair → Bool
asks_for_the_past pair = bytes_eq pair.0 (codes "resourceVersionMatch") && bytes_eq pair.1 (codes "Exact")

abbrev pub is_left_out : Method → (watches : Bool) → Pair → Bool
is_left_out method watches pair = (is_among pair.0 of_any || is_among pair.0 (of_method method watches)) && not (asks_for_the_past pair)

-- ---- the names that are kept

-- those that may be served: a GET has them
abbrev pub may_stay : Method → (name : List ℕ) → Bool
may_stay Get name = is_served name
may_stay Head name = false
may_stay Post name = false
may_stay Put name = false
may_stay Delete name = false
may_stay Other name = false

-- Any other pair may change what a reply means. It is never left out, and its message stays as it is.
abbrev pub is_other : Method → (watches : Bool) → Pair → Bool
is_other method watches pair = not (is_left_out method watches pair) && not (may_stay method pair.0)

-- ---- `watch`

-- as Kubernetes reads a value: anything but `0` and, in small or capital letters, `false`
abbrev pub is_true : List ℕ → Bool
is_true text = not (bytes_eq (map to_ascii_lowercase text) (codes "false") || bytes_eq text (codes "0"))

-- the query asks for a watch
abbrev pub asks_to_watch : List Pair → Bool
asks_to_watch pairs = list_any (λ pair. bytes_eq pair.0 (codes "watch") && is_true pair.1) pairs

-- the value is none of the four that are served
abbrev pub is_misread : Pair → Bool
is_misread pair = bytes_eq pair.0 (codes "watch") && is_none (truth_of pair.1)

-- the value as it is served
abbrev pub served_truth : List ℕ → List ℕ
served_truth text = if is_true text then codes "true" else codes "false"

abbrev pub served_pair : Pair → Pair
served_pair pair = if is_misread pair then (pair.0, served_truth pair.1) else pair

-- ---- the query

-- the pairs that are kept, in their order
abbrev pub kept : Method → (watches : Bool) → List Pair → List Pair
kept method watches [] = []
kept method watches (pair ∷ pairs) =
    if is_left_out method watches pair then kept method watches pairs else served_pair pair ∷ kept method watches pairs

-- some pair is left out, or read as another
abbrev pub is_restated : Method → (watches : Bool) → List Pair → Bool
is_restated method watches pairs = list_any (λ pair. is_left_out method watches pair || is_misread pair) pairs

-- a path with a query, where there is one
abbrev pub with_query : (path query : List ℕ) → List ℕ
with_query path query = if is_empty query then path else path ++ (codes "?" ++ query)

-- a target whose path is this and whose query has these pairs
abbrev pub target_of : (path : List ℕ) → List Pair → List ℕ
target_of path pairs = with_query path (extend_pairs [] pairs)
