-- One binding and one policy as they are held.
use Rattle.std.specs.Prelude.{option_map, option_and_then, Option}
use Rattle.names.specs.Key.{Key}
use Rattle.policy.specs.Rules.{Attempt}
use Rattle.policy.specs.Policies.{policy_of}
use Rattle.verdict.specs.Told.{Denial}
use Rattle.policy.specs.Forms.{Text}
use Rattle.policy.specs.Spec.{Binding}
use Rattle.verdict.specs.Objects.{Object, Objects, Held, shown_objects}
use Rattle.verdict.specs.OneBinding.{denial}

-- the binding with its name
abbrev pub held_binding : Key × Held → Option (Text × Binding)
held_binding o = option_map (λ b. (o.0.name, b)) o.1.binding

-- the denial by a binding of a policy that is there
abbrev pub denial_by_policy : Objects → Attempt → Binding → Object → Option Denial
denial_by_policy objects w b o = option_and_then (λ p. denial (shown_objects objects) p o.trees b w) (policy_of o.document.json)
