use Rattle.std.proofs.Common.{◌≡◌, ◌++◌, drop, map}
use Rattle.std.specs.List.{flat_map}
use Rattle.plancode.specs.PlanList.{plan_bytes, list_bytes, AreFor}
use Rattle.plancode.proofs.list_writing.write_plans.Given as goal

-- what was written, and then what is left; all plans fit where those left do
abbrev pub invariant-loop-plan : goal.invariant-loop-plan
invariant-loop-plan l =
    (list_bytes l.plans ≡ l.bytes.items ++ flat_map plan_bytes (drop l.plan-index l.plans))
    × (AreFor (map (λ p. p.vars) (drop l.plan-index l.plans)) (drop l.plan-index l.plans) → AreFor (map (λ p. p.vars) l.plans) l.plans)
