-- The methods that a path allows, where a message asks for another (RFC 9110 section 10.2.1).
use Rattle.std.specs.Prelude.{ℕ, List, codes, if◌then◌else◌, Option, Some, None, is_some, option_and_then}
use Rattle.std.specs.Option.{option_map_or}
use Rattle.names.specs.declared.format.Format.{Format}
use Rattle.httpmsg.specs.Stream.{Message}
use Rattle.routes.specs.Path.{PathPlace, everywhere, within}
use Rattle.routes.specs.Asked.{asked_at, place_in}

-- the methods that a place allows
abbrev pub allowed : PathPlace → List ℕ
allowed (everywhere r) = codes "GET"
allowed (within t) = option_map_or (λ name. codes "GET, PUT, DELETE") t.name (codes "GET, POST")

-- the methods that are allowed where a message points, if its own is none of them
abbrev pub allow_of : Format → Message → Option (List ℕ)
allow_of format m = option_and_then (λ place. if is_some (asked_at m place) then None else Some (allowed place)) (place_in format m)
