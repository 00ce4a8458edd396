use Rattle.std.proofs.Common.{◌≡◌, ◌∙◌, ◌+◌, List, [], ◌∷◌, get_or, ◌++◌, map, drop, sym, ap, subst, append_assoc, append-nil, rules, arith}
use Rattle.std.proofs.lemmas.List.{drop_more, drop_all}
use Rattle.std.proofs.lemmas.List.Elements.{All-from_recursion}
use Rattle.std.specs.List.{flat_map}
use Rattle.plancode.specs.Plans.{Judged}
use Rattle.plancode.specs.PlanList.{plan_bytes, AreFor, IsShort}
use Rattle.plancode.proofs.list_writing.write_plans.Goals as goal

pub loop-plan-preserved : goal.loop-plan-preserved
loop-plan-preserved c =
    let plans = c.args.plans.now in
    let plan = c.plan-item.result in
    let rest = drop (c.loop-plan.plan-index + 1) plans in
    let bytes = c.loop-plan.bytes.items in
    let front : drop c.loop-plan.plan-index plans ≡ plan ∷ rest = drop_more plans c.loop-plan.plan-index plan c.loop-plan-test.true ∙ sym (ap (λ p. p ∷ rest) c.plan-item.is) in
    let P : List Judged → Type 0 = λ ps. AreFor (map (λ p. p.vars) ps) ps in (
      c.loop-plan.invariant.0
          ∙ ap (λ ps. bytes ++ flat_map plan_bytes ps) front
          ∙ sym (append_assoc bytes (plan_bytes plan) (flat_map plan_bytes rest))
          ∙ sym (ap (λ written. written ++ flat_map plan_bytes rest) c.in_ok-add_plan.ensures.added),
      λ fit. c.loop-plan.invariant.1 (subst P (sym front) (c.in_ok-add_plan.ensures.fits, fit)),
    )

pub returns-in_err-add_plan-clause-long : goal.returns-in_err-add_plan-clause-long
returns-in_err-add_plan-clause-long c is_long room =
    let P : Judged → Type 0 = IsShort in
    let short : IsShort (get_or c.args.plans.now c.loop-plan.plan-index c.plan-item.result) = All-from_recursion IsShort c.args.plans.now room.sizes c.loop-plan.plan-index c.plan-item.result c.loop-plan-test.true in
    c.in_err-add_plan.ensures.long (search rules) (subst P (sym c.plan-item.is) short)

pub returns-clause-fits : goal.returns-clause-fits
returns-clause-fits c =
    let P : List Judged → Type 0 = λ ps. AreFor (map (λ p. p.vars) ps) ps in
    let none : drop c.loop-plan.plan-index c.args.plans.now ≡ [] = drop_all c.loop-plan.plan-index c.args.plans.now c.loop-plan-test.false in
    record { each = c.loop-plan.invariant.1 (subst P (sym none) tt); count = omega arith }

pub returns-clause-bytes : goal.returns-clause-bytes
returns-clause-bytes c =
    let bytes = c.loop-plan.bytes.items in
    let none : drop c.loop-plan.plan-index c.args.plans.now ≡ [] = drop_all c.loop-plan.plan-index c.args.plans.now c.loop-plan-test.false in
    sym (c.loop-plan.invariant.0 ∙ ap (λ ps. bytes ++ flat_map plan_bytes ps) none ∙ append-nil bytes)
