-- The verdict on a write of the policies and bindings among the objects, before it.
use Rattle.std.specs.Prelude.{List, map, filter_map, Option, None, option_map, option_and_then}
use Rattle.names.specs.Key.{Key}
use Rattle.names.specs.declared.resource.Resource.TheVariants.{ValidatingAdmissionPolicyBinding}
use Rattle.objects.specs.Objects.{value_at}
use Rattle.policy.specs.Rules.{Attempt}
use Rattle.policy.specs.Forms.{Text}
use Rattle.policy.specs.Bindings.{binding_of}
use Rattle.policy.specs.Policies.{policy_of}
use Rattle.policy.specs.Spec.{Binding}
use Rattle.verdict.specs.Told.{Denial}
use Rattle.verdict.specs.Verdict.{Verdict}
use Rattle.verdict.specs.Deciding.{Finding, verdict_of}
use Rattle.expressions.specs.Bindings.{policy_key}
use Rattle.verdict.specs.Objects.{Object, Objects, shown_objects}
use Rattle.verdict.specs.Listed.{listed}
use Rattle.verdict.specs.OneBinding.{denial}

-- the denial by a binding: none where its policy is not there
abbrev pub denial_by : Objects → Attempt → Binding → Option Denial
denial_by objects w b =
    option_and_then (λ o. option_and_then (λ p. denial (shown_objects objects) p o.trees b w) (policy_of o.document.json))
    (value_at (policy_key b.policy) objects)

abbrev pub bound : Key × Object → Option (Text × Binding)
bound o = option_map (λ b. (o.0.name, b)) (binding_of o.1.document.json)

-- the bindings with their names, ascending
abbrev pub bindings : Objects → List (Text × Binding)
bindings objects = filter_map bound (listed ValidatingAdmissionPolicyBinding None objects)

abbrev pub finding : Objects → Attempt → Text × Binding → Finding
finding objects w b = record { name = b.0; binding = b.1; denial = denial_by objects w b.1 }

abbrev pub verdict : Objects → Attempt → Verdict
verdict objects w = verdict_of (map (finding objects w) (bindings objects))
