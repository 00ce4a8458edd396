use Rattle.std.proofs.Common.{drop}
use Rattle.std.specs.List.{AllByRecursion}
use Rattle.plancode.specs.Plans.{IsVerified}
use Rattle.expressions.proofs.specification.all_verified.Given as goal

-- all are well formed where those left are
abbrev pub invariant-loop-plan : goal.invariant-loop-plan
invariant-loop-plan l = AllByRecursion (λ p. IsVerified p.vars p.ops) (drop l.plan-index l.plans) → AllByRecursion (λ p. IsVerified p.vars p.ops) l.plans
