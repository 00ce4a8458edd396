-- The request that the code's enum stands for.
use Rattle.std.specs.Prelude.{option_map, string_bytes}
use Rattle.requests.specs.declared.request.Request as code
use Rattle.requests.specs.declared.request.Request.TheVariants.{Get, List, Watch, Create, Replace, Delete, Refused}
use Rattle.requests.specs.Collection.{collection_of}
use Rattle.requests.specs.Request.{Request, get, list, watch, create, replace, delete, refused}
use Rattle.requests.specs.Selector.{selector_seen}

abbrev pub request_of : code.Request → Request
request_of (Get k) = get k
request_of (List c selector) = list (collection_of c) (selector_seen selector)
request_of (Watch c revision) = watch (collection_of c) revision
request_of (Create m) = create m
request_of (Replace m) = replace m
request_of (Delete k asked) = delete k (option_map string_bytes asked)
request_of (Refused r) = refused r
