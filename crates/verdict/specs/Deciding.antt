-- The verdict of all bindings on a write (Kubernetes, "Validating Admission Policy").
use Rattle.std.specs.Prelude.{◌∷◌, ◌++◌, List, [], Option, Some, None}
use Rattle.policy.specs.Forms.{Text}
use Rattle.policy.specs.Spec as spec
use Rattle.verdict.specs.Texts.{warning}
use Rattle.verdict.specs.Told.{Denial}
use Rattle.verdict.specs.Verdict.{Verdict, admitted, denied, Decision, decided, warned, decision}

-- a binding with its name, and what it gives
pub record Finding : Type 0 where
  pub name : Text
  pub binding : spec.Binding
  pub denial : Option Denial

abbrev pub and_warn : Text → Verdict → Verdict
and_warn text (admitted texts) = admitted (text ∷ texts)
and_warn text (denied policy binding reason message) = denied policy binding reason message

-- a decision by a binding of a policy, before the verdict of those after it
abbrev pub on_decision : (policy name : Text) → Decision → Verdict → Verdict
on_decision policy name (decided verdict) rest = verdict
on_decision policy name (warned d) rest = and_warn (warning policy name d.message) rest

-- a finding, before the verdict of those after it
abbrev pub decide : (name : Text) → spec.Binding → Option Denial → Verdict → Verdict
decide name b None rest = rest
decide name b (Some d) rest = on_decision b.policy name (decision b.action b.policy name d) rest

-- the first denial by a binding that denies, or else a warning for each denial by a binding that warns
abbrev pub verdict_of : List Finding → Verdict
verdict_of [] = admitted []
verdict_of (f ∷ fs) = decide f.name f.binding f.denial (verdict_of fs)

-- the warnings before those of the rest, if the rest is admitted
abbrev pub after_warnings : List Text → Verdict → Verdict
after_warnings texts (admitted more) = admitted (texts ++ more)
after_warnings texts (denied policy binding reason message) = denied policy binding reason message
