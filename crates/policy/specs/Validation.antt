-- A validation: what must hold of a write, and what is said where it does not (Kubernetes, admissionregistration.k8s.io/v1: Validation).
use Rattle.std.specs.Prelude.{ℕ, List, Option, option_map, string_bytes}
use Rattle.policy.specs.declared.validation.Reason.{Reason}
use Rattle.policy.specs.declared.validation.Validation as code_validation

-- a text: its bytes
abbrev pub Text : Type 0
Text = List ℕ

pub record Validation : Type 0 where
  pub expression : Text
  pub message : Option Text
  pub message_expression : Option Text
  pub reason : Reason

abbrev pub validation_seen : code_validation.Validation → Validation
validation_seen v = record {
  expression = string_bytes v.expression;
  message = option_map string_bytes v.message;
  message_expression = option_map string_bytes v.message_expression;
  reason = v.reason;
}
