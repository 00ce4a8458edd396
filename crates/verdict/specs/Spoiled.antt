-- Policies whose plans are spoiled, and that a write asks.
use Rattle.std.specs.Prelude.{◌≡◌, ℕ, List, Contains, Some, None, IsTrue}
use Rattle.std.specs.List.{filter_map}
use Rattle.names.specs.Key.{Key}
use Rattle.names.specs.declared.resource.Resource.TheVariants.{ValidatingAdmissionPolicyBinding}
use Rattle.objects.specs.Objects.{value_at}
use Rattle.policy.specs.Forms.{Text}
use Rattle.policy.specs.Matching.{is_matched}
use Rattle.policy.specs.Rules.{Attempt}
use Rattle.policy.specs.Spec.{Policy, Binding}
use Rattle.verdict.specs.Verdict.{Verdict, admitted, denied}
use Rattle.expressions.specs.Bindings.{policy_key}
use Rattle.verdict.specs.Objects.{Held}
use Rattle.expressions.specs.Specification.{spoiled}
use Rattle.verdict.specs.Listed.{listed}
use Rattle.verdict.specs.Turns.{held_binding}

-- The policy that the binding names is there, both are for the write, and the policy's plans are spoiled.
pub record AsksSpoiled (all : List (Key × Held)) (w : Attempt) (b : Binding) : Type 0 where
  pub found : Held
  pub stands : value_at (policy_key b.policy) all ≡ Some found
  pub policy : Policy
  pub spells : found.policy ≡ Some policy
  pub bytes : List ℕ
  pub plans : found.plans ≡ spoiled bytes
  pub matched : IsTrue (is_matched policy.constraints b.resources w)

-- One of the bindings asks such a policy.
pub record HasSpoiled (all : List (Key × Held)) (w : Attempt) : Type 0 where
  pub binding : Text × Binding
  pub stands : Contains (filter_map held_binding (listed ValidatingAdmissionPolicyBinding None all)) binding
  pub asks : AsksSpoiled all w binding.1

abbrev pub IsDenied : Verdict → Type 0
IsDenied (admitted warnings) = ⊥
IsDenied (denied policy binding reason message) = Unit {0}
