-- What one binding of a policy says of a write (Kubernetes, "Validating Admission Policy").
use Rattle.std.specs.Prelude.{◌++◌, List, if◌then◌else◌, codes, Option, Some, None}
use Rattle.celtree.specs.Tree.{Expr}
use Rattle.policy.specs.Rules.{Attempt}
use Rattle.policy.specs.Matching.{is_matched}
use Rattle.policy.specs.Spec as spec
use Rattle.policy.specs.declared.params.NotFound.{NotFound}
use Rattle.policy.specs.declared.params.NotFound.TheVariants as when_not_found
use Rattle.verdict.specs.Trees.{conditions_of}
use Rattle.verdict.specs.Environment.{seen}
use Rattle.verdict.specs.Told.{Denial, failure}
use Rattle.verdict.specs.Denials.{Conditions, met, unmet, neither, conditions, first_denial, evaluate}
use Rattle.verdict.specs.Listed.{Shown}
use Rattle.verdict.specs.Parameters.{Parameters, found, misconfigured, not_found, parameters}

-- where no parameter is found, the binding says whether the write passes
abbrev pub on_not_found : spec.Policy → Option spec.ParamRef → Option Denial
on_not_found p None = None
on_not_found p (Some ref) = on_action p ref.not_found
  where
    on_action : spec.Policy → NotFound → Option Denial
    on_action p when_not_found.Allow = None
    on_action p when_not_found.Deny = failure p.failure_policy (codes "parameter not found")

abbrev pub on_parameters : spec.Policy → List Expr → Option spec.ParamRef → Attempt → Parameters → Option Denial
on_parameters p trees ref w (found ds) = first_denial (λ d. evaluate p trees (seen w d)) ds
on_parameters p trees ref w misconfigured = failure p.failure_policy (codes "binding misconfigured")
on_parameters p trees ref w not_found = on_not_found p ref

abbrev pub on_conditions : Shown → spec.Policy → List Expr → spec.Binding → Attempt → Conditions → Option Denial
on_conditions objects p trees b w unmet = None
on_conditions objects p trees b w met = on_parameters p trees b.param_ref w (parameters objects p.param_kind b.param_ref w)
on_conditions objects p trees b w (neither name) = failure p.failure_policy (codes "match condition error: " ++ name)

-- the denial by a policy with a binding, if they give one
abbrev pub denial : Shown → spec.Policy → List Expr → spec.Binding → Attempt → Option Denial
denial objects p trees b w =
    if is_matched p.constraints b.resources w then on_conditions objects p trees b w (conditions (conditions_of p trees) (seen w None)) else None
