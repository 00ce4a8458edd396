-- What a put finds of the place of its key.
use Rattle.std.specs.Prelude.{◌≡◌, Option, Some, None}
use Rattle.serde_json.specs.Data.{Data}
use Rattle.names.specs.declared.format.Rules.{Rules}
use Rattle.names.specs.Key.{Key}
use Rattle.histories.specs.View as seen
use Rattle.decoded.specs.Decoded.{Decoded}
use Rattle.apicore.specs.Conditions.{known, first_of, place_conditions}
use Rattle.apicore.specs.Namespaces.{namespace_shown}
use Rattle.apicore.specs.declared.namespaces.NamespacePlace.{NamespacePlace}
use Rattle.apicore.specs.declared.namespaces.NamespacePlace.TheVariants.{Refused, In}

-- Nothing refuses a put for its place, and this is the Namespace that it stands in, as it is shown, if it is there.
pub record IsIn (rules : Rules) (held : seen.View Decoded) (k : Key) (namespace : Option Data) : Type 0 where
  pub placed : first_of (place_conditions rules held k) ≡ None
  pub is : namespace ≡ namespace_shown held k

-- this refuses the put for the place of its key, or nothing does, and it stands in this Namespace
abbrev pub IsPlaceOf : Rules → seen.View Decoded → Key → NamespacePlace → Type 0
IsPlaceOf rules held k (Refused r) = first_of (place_conditions rules held k) ≡ Some (known r)
IsPlaceOf rules held k (In d) = IsIn rules held k d
