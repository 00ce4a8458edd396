-- What restating leaves as it is, and what it never leaves out.
use Rattle.std.specs.Prelude.{◌≡◌, ℕ, List, true, Option, option_map}
use Rattle.std.specs.Option.{option_map_or}
use Rattle.names.specs.declared.format.Format.{Format}
use Rattle.names.specs.declared.resource.Resource.{Resource}
use Rattle.requests.specs.declared.refusal.Refusal.{Refusal}
use Rattle.requests.specs.Collection.{Collection}
use Rattle.requests.specs.Request.{refused, watch}
use Rattle.httpmsg.specs.declared.head.Method.{Method}
use Rattle.httpmsg.specs.declared.head.Method.TheVariants.{Get, Head, Post, Put, Delete, Other}
use Rattle.httpmsg.specs.Stream.{Message}
use Rattle.routes.specs.Asked.{asked, place_in}
use Rattle.routes.specs.Path.{resource_in}
use Rattle.dialect.specs.Labels.{labelled_object}
use Rattle.dialect.specs.Restated.{restated, has_other_pair}

-- a body at a place of a resource, if it is one, with the label of the Namespace that it creates or replaces
abbrev pub body_labelled : Method → Option Resource → (body : List ℕ) → List ℕ
body_labelled Get place body = body
body_labelled Head place body = body
body_labelled Post place body = option_map_or (λ r. labelled_object r body) place body
body_labelled Put place body = option_map_or (λ r. labelled_object r body) place body
body_labelled Delete place body = body
body_labelled Other place body = body

-- the message with that body, in a store of a format
abbrev pub labelled_message : Format → Message → Message
labelled_message f m = record { method = m.method; target = m.target; closes = m.closes; body = body_labelled m.method (option_map resource_in (place_in f m)) m.body }

-- What is served without the dialect is asked in it by the same message, but for watches, and a Namespace gains the label of its name.
abbrev pub ServedStays : Type 0
ServedStays = (f : Format) (m : Message) → ((r : Refusal) → asked f m ≡ refused r → ⊥) → ((c : Collection) (n : ℕ) → asked f m ≡ watch c n → ⊥)
    → restated f m ≡ labelled_message f m

-- A pair that is neither served nor left out is refused, whatever stands beside it.
abbrev pub OthersRefused : Type 0
OthersRefused = (f : Format) (m : Message) → has_other_pair m ≡ true → (r : Refusal) × (asked f (restated f m) ≡ refused r)
