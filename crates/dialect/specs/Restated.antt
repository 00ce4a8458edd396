-- The message that a message of a Kubernetes client stands for, and which ones are answered by constant bytes.
use Rattle.std.specs.Prelude.{ℕ, Bool, true, false, not, List, ◌&&◌, if◌then◌else◌, Option, None, option_map}
use Rattle.std.specs.List.{list_any}
use Rattle.std.specs.Option.{option_map_or}
use Rattle.names.specs.declared.format.Format.{Format}
use Rattle.names.specs.declared.resource.Resource.{Resource}
use Rattle.httpmsg.specs.declared.head.Method.{Method}
use Rattle.httpmsg.specs.declared.head.Method.TheVariants.{Get, Head, Post, Put, Delete, Other}
use Rattle.httpmsg.specs.Stream.{Message}
use Rattle.routes.specs.Asked.{place_in}
use Rattle.routes.specs.Path.{path_of, query_of, resource_in}
use Rattle.routes.specs.Query.{Pair, pairs_of}
use Rattle.dialect.specs.Discovery.{constant_at}
use Rattle.dialect.specs.Pairs.{is_other, asks_to_watch, is_restated, kept, target_of}
use Rattle.dialect.specs.Options.{restated_options}
use Rattle.dialect.specs.Objects.{restated_object}

-- the pairs of a message's query, decoded
abbrev pub pairs_in : Message → List Pair
pairs_in m = pairs_of (query_of m.target)

abbrev pub is_watch : Message → Bool
is_watch m = asks_to_watch (pairs_in m)

-- the message has a pair that is neither served nor left out
abbrev pub has_other_pair : Message → Bool
has_other_pair m = list_any (is_other m.method (is_watch m)) (pairs_in m)

abbrev pub restated_target : Message → List ℕ
restated_target m = if is_restated m.method (is_watch m) (pairs_in m) then target_of (path_of m.target) (kept m.method (is_watch m) (pairs_in m)) else m.target

-- the body of an object of a resource, if there is one
abbrev pub object_body : Option Resource → (body : List ℕ) → List ℕ
object_body place body = option_map_or (λ r. restated_object r body) place body

-- what a method does to a body, at a place of a resource, if it is one
abbrev pub body_read : Method → Option Resource → (body : List ℕ) → List ℕ
body_read Get place body = body
body_read Head place body = body
body_read Post place body = object_body place body
body_read Put place body = object_body place body
body_read Delete place body = restated_options body
body_read Other place body = body

abbrev pub restated_body : Format → Message → List ℕ
restated_body f m = body_read m.method (option_map resource_in (place_in f m)) m.body

-- The message of the profile that a message of a Kubernetes client stands for, in a store of a format.
abbrev pub restated : Format → Message → Message
restated f m =
    if has_other_pair m then m
    else record { method = m.method; target = restated_target m; closes = m.closes; body = restated_body f m }

-- ---- constants

-- GET, and HEAD, which is told the same without the body (RFC 9110 section 9.3.2)
abbrev pub reads : Method → Bool
reads Get = true
reads Head = true
reads Post = false
reads Put = false
reads Delete = false
reads Other = false

-- the constant that answers a message, if one does. A watch is none.
abbrev pub constant_of : Format → Message → Option (List ℕ)
constant_of f m = if reads m.method && not (is_watch m) then constant_at f (path_of m.target) else None

-- What is made of a message: it is answered by constant bytes, or it asks for something.
pub data Reading : Type 0 where
  asks : Message → Reading
  constant : List ℕ → Reading

abbrev pub reading_of : Format → Message → Reading
reading_of f m = option_map_or constant (constant_of f m) (asks (restated f m))
