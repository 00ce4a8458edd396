use Rattle.std.proofs.Common.{rules, refl, sym}
use Rattle.instructions.specs.Bytes.{code}
use Rattle.plancode.proofs.Lists.{only_plan, same_code}
use Rattle.plancode.proofs.list_reading.read_plan.Goals as goal

pub returns-in_ok-plan-in-Some-clause-only : goal.returns-in_ok-plan-in-Some-clause-only
returns-in_ok-plan-in-Some-clause-only c =
    let found = c.in_ok-plan-in-Some.ensures.found in
    only_plan c.args.variables c.in_ok-plan-in-Some.plan c.args.bytes.now c.in-Some.inside.now c.in-Some.rest.now c.in-Some.ensures.size c.in-Some.ensures.parts found.0 found.1 found.2

pub returns-in-None-clause-damaged : goal.returns-in-None-clause-damaged
returns-in-None-clause-damaged c is_damaged p rest fits same = c.in-None.ensures.none refl (code p.ops) rest fits.short (sym same)

pub returns-in_err-plan-in-Some-clause-damaged : goal.returns-in_err-plan-in-Some-clause-damaged
returns-in_err-plan-in-Some-clause-damaged c is_damaged p rest fits same =
    let found = same_code c.args.variables p c.args.bytes.now rest c.in-Some.inside.now c.in-Some.rest.now fits c.in-Some.ensures.size c.in-Some.ensures.parts same in
    c.in_err-plan-in-Some.ensures.damaged (search rules) p fits found.0
