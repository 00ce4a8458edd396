-- Messages with a pair that is neither served nor left out are refused.
use Rattle.std.proofs.Common.{◌≡◌, ℕ, List, [], ◌∷◌, map, Bool, true, false, not, ◌&&◌, ◌||◌, cond, codes, Option, Some, None, refl, sym, true≢false}
use Rattle.std.specs.Prelude.{unwrap_or}
use Rattle.std.specs.List.{list_any, list_all}
use Rattle.std.specs.Option.{option_map_or}
use Rattle.names.specs.declared.format.Format.{Format}
use Rattle.names.specs.declared.resource.Resource.{Resource}
use Rattle.requests.specs.declared.refusal.Refusal.{Refusal}
use Rattle.requests.specs.declared.refusal.Refusal.TheVariants.{NoSuchPath, MethodNotAllowed, BadQuery, BadNameInPath}
use Rattle.requests.specs.Collection.{Collection}
use Rattle.requests.specs.Manifest.{Target, is_target, body_conditions}
use Rattle.jsondoc.specs.Json.{reading}
use Rattle.names.specs.Key.{key_of}
use Rattle.requests.specs.Refusal.{Condition}
use Rattle.requests.specs.Request.{Request, refused}
use Rattle.httpmsg.specs.declared.head.Method.{Method}
use Rattle.httpmsg.specs.declared.head.Method.TheVariants.{Get, Head, Post, Put, Delete, Other}
use Rattle.httpmsg.specs.Stream.{Message}
use Rattle.routes.specs.Asked.{unless_refused, look, creation, replacement, deletion, answering, collection_conditions, collection_request, collection_at, all_of, of_item, of_collection, of_everywhere, asked_at, place_in, asked}
use Rattle.routes.specs.Path.{PathPlace, everywhere, within}
use Rattle.routes.specs.Query.{Pair, Question, decoded, is_any, is_served, is_at_most_once, value_of, question_by, question_of}
use Rattle.dialect.specs.Pairs.{is_left_out, is_other}
use Rattle.dialect.specs.Restated.{pairs_in, is_watch, has_other_pair}

abbrev pub Refuses : Request → Type 0
Refuses request = (r : Refusal) × (request ≡ refused r)

-- a query with a pair of which something holds has a pair
pub some_pair : (p : Pair → Bool) (raw : List Pair) → list_any p (map decoded raw) ≡ true → is_any raw ≡ true
some_pair p [] some = absurd (true≢false (sym some))
some_pair p (pair ∷ raw) some = refl

-- the first condition refuses
pub at_once : (r : Refusal) (b : Bool) (conditions : List Condition) (request : Request) → b ≡ true → Refuses (unless_refused ((r, b) ∷ conditions) request)
at_once r b conditions request holds = (r, rw holds refl)

known : (served left rest_any rest_all : Bool) → (rest_any ≡ true → rest_all ≡ false) → ((not left && not served) || rest_any) ≡ true → (served && rest_all) ≡ false
known false left a b later some = refl
known true true a b later some = later some
known true false a b later some = later some

not_all_served : (w : Bool) (pairs : List Pair) → list_any (is_other Get w) pairs ≡ true → list_all (λ pair. is_served pair.0) pairs ≡ false
not_all_served w [] some = absurd (true≢false (sym some))
not_all_served w (pair ∷ pairs) some =
    known (is_served pair.0) (is_left_out Get w pair) (list_any (is_other Get w) pairs) (list_all (λ p. is_served p.0) pairs) (not_all_served w pairs) some

no_question : (all labels watched versions : Bool) (question : Option Question) → all ≡ false → cond (all && labels && watched && versions) question None ≡ None
no_question false labels watched versions question is = refl
no_question true labels watched versions question is = absurd (true≢false is)

refused_query : (question : Option Question) (answer : Question → Request) → question ≡ None → Refuses (option_map_or answer question (refused BadQuery))
refused_query None answer is = (BadQuery, refl)
refused_query (Some q) answer is = absurd (let none : Some q ≡ None = is in cc)

collection_refused : (m : Message) (c : Collection) (w : Bool) → list_any (is_other Get w) (pairs_in m) ≡ true → Refuses (collection_request m c)
collection_refused m c w some =
    refused_query (question_of (pairs_in m)) (λ question. unless_refused (collection_conditions m c) (answering c question))
    (no_question (list_all (λ pair. is_served pair.0) (pairs_in m)) (is_at_most_once (codes "labelSelector") (pairs_in m)) (is_at_most_once (codes "watch") (pairs_in m))
    (is_at_most_once (codes "resourceVersion") (pairs_in m))
    (question_by (value_of (codes "labelSelector") (pairs_in m)) (value_of (codes "watch") (pairs_in m)) (value_of (codes "resourceVersion") (pairs_in m)))
    (not_all_served w (pairs_in m) some))

module _ (m : Message) (w : Bool) where
  in_everywhere : (r : Resource) (method : Method) → list_any (is_other method w) (pairs_in m) ≡ true → Refuses (unwrap_or (of_everywhere m r method) (refused MethodNotAllowed))
  in_everywhere r Get some = collection_refused m (all_of r) w some
  in_everywhere r Head some = (MethodNotAllowed, refl)
  in_everywhere r Post some = (MethodNotAllowed, refl)
  in_everywhere r Put some = (MethodNotAllowed, refl)
  in_everywhere r Delete some = (MethodNotAllowed, refl)
  in_everywhere r Other some = (MethodNotAllowed, refl)

  in_collection : (t : Target) (method : Method) → list_any (is_other method w) (pairs_in m) ≡ true → Refuses (unwrap_or (of_collection m t method) (refused MethodNotAllowed))
  in_collection t Get some = collection_refused m (collection_at t) w some
  in_collection t Head some = (MethodNotAllowed, refl)
  in_collection t Post some = at_once BadQuery _ (body_conditions t m.body) (creation t (reading m.body)) (some_pair (is_other Post w) _ some)
  in_collection t Put some = (MethodNotAllowed, refl)
  in_collection t Delete some = (MethodNotAllowed, refl)
  in_collection t Other some = (MethodNotAllowed, refl)

  in_item : (t : Target) (name : List ℕ) (method : Method) → list_any (is_other method w) (pairs_in m) ≡ true → Refuses (unwrap_or (of_item m t name method) (refused MethodNotAllowed))
  in_item t name Get some = at_once BadQuery _ ((BadNameInPath, not (is_target t)) ∷ []) (look (key_of t.resource t.namespace name) m.body) (some_pair (is_other Get w) _ some)
  in_item t name Head some = (MethodNotAllowed, refl)
  in_item t name Post some = (MethodNotAllowed, refl)
  in_item t name Put some = at_once BadQuery _ (body_conditions t m.body) (replacement t (reading m.body)) (some_pair (is_other Put w) _ some)
  in_item t name Delete some = at_once BadQuery _ ((BadNameInPath, not (is_target t)) ∷ []) (deletion (key_of t.resource t.namespace name) m.body) (some_pair (is_other Delete w) _ some)
  in_item t name Other some = (MethodNotAllowed, refl)

  within_target : (t : Target) (name : Option (List ℕ)) → list_any (is_other m.method w) (pairs_in m) ≡ true
      → Refuses (unwrap_or (option_map_or (λ n. of_item m t n m.method) name (of_collection m t m.method)) (refused MethodNotAllowed))
  within_target t None some = in_collection t m.method some
  within_target t (Some name) some = in_item t name m.method some

  at_place : (place : Option PathPlace) → list_any (is_other m.method w) (pairs_in m) ≡ true
      → Refuses (option_map_or (λ p. unwrap_or (asked_at m p) (refused MethodNotAllowed)) place (refused NoSuchPath))
  at_place None some = (NoSuchPath, refl)
  at_place (Some (everywhere r)) some = in_everywhere r m.method some
  at_place (Some (within t)) some = within_target t t.name some

pub others : (f : Format) (m : Message) → has_other_pair m ≡ true → Refuses (asked f m)
others f m some = at_place m (is_watch m) (place_in f m) some
