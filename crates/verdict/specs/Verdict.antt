-- What becomes of a write that a policy denies (Kubernetes, "Validating Admission Policy": validation actions).
use Rattle.std.specs.Prelude.{List}
use Rattle.policy.specs.declared.binding.Action.{Action}
use Rattle.policy.specs.declared.binding.Action.TheVariants.{Deny, Warn}
use Rattle.policy.specs.declared.validation.Reason.{Reason}
use Rattle.verdict.specs.Told.{Denial}
use Rattle.policy.specs.Validation.{Text}

pub data Verdict : Type 0 where
  admitted : (warnings : List Text) → Verdict
  denied : (policy binding : Text) → (reason : Reason) → (message : Text) → Verdict

-- what a denial by a binding comes to: a verdict, or a warning of it
pub data Decision : Type 0 where
  decided : Verdict → Decision
  warned : Denial → Decision

-- a binding that denies makes its denial the verdict, one that warns a warning
abbrev pub decision : Action → (policy name : Text) → Denial → Decision
decision Deny policy name d = decided (denied policy name d.reason d.message)
decision Warn policy name d = warned d
