-- Which objects are listed, and which of them are wanted (Kubernetes, "Validating Admission Policy", "Parameter resources").
use Rattle.std.specs.Prelude.{List, map, Bool, Option}
use Rattle.std.specs.List.{filter}
use Rattle.std.specs.Str.{bytes_eq}
use Rattle.serde_json.specs.Data.{Data}
use Rattle.names.specs.Key.{Key}
use Rattle.names.specs.declared.resource.Resource.{Resource}
use Rattle.objects.specs.Objects.{is_of}
use Rattle.documents.specs.Selecting.{selects}
use Rattle.policy.specs.Forms.{Text}
use Rattle.policy.specs.Spec.{Wanted, by_name, by_selector}

-- every object as it is shown, in key order
abbrev pub Shown : Type 0
Shown = List (Key × Data)

-- the objects of a resource, in this namespace if one is given
abbrev pub listed : {A : Type 0} → Resource → Option Text → List (Key × A) → List (Key × A)
listed r namespace objects = filter (λ o. is_of r namespace o.0) objects

abbrev pub is_wanted : Wanted → Key × Data → Bool
is_wanted (by_name name) o = bytes_eq o.0.name name
is_wanted (by_selector requirements) o = selects requirements o.1

-- those that are wanted
abbrev pub wanted_of : Wanted → Shown → List Data
wanted_of wanted objects = map (λ o. o.1) (filter (is_wanted wanted) objects)
