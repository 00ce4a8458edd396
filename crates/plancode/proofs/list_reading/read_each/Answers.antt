use Rattle.std.proofs.Common.{rules, ◌≡◌, ◌∷◌, ◌++◌, [], List, ℕ, subst, sym}
use Rattle.plancode.specs.Plans.{Judged}
use Rattle.plancode.proofs.Progress.{IsRead, one_more, none_next, all_fit}
use Rattle.plancode.proofs.list_reading.read_each.Goals as goal

pub returns-in_err-plan-clause-damaged : goal.returns-in_err-plan-clause-damaged
returns-in_err-plan-clause-damaged c is_damaged all fits same =
    let left : c.each.left.now ≡ c.in-Some.variables.now ∷ c.in-Some.others.now = search rules in
    let P : List ℕ → Type 0 = λ left. IsRead c.args.places.now c.args.bytes.now left c.each.rest.now c.each.plans.items in
    none_next c.args.places.now c.args.bytes.now c.in-Some.variables.now c.in-Some.others.now c.each.rest.now c.each.plans.items (subst P left c.each.invariant)
    (c.in_err-plan.ensures.damaged (search rules)) all fits same

pub each-preserved : goal.each-preserved
each-preserved c =
    let left : c.each.left.now ≡ c.in-Some.variables.now ∷ c.in-Some.others.now = search rules in
    let P : List ℕ → Type 0 = λ left. IsRead c.args.places.now c.args.bytes.now left c.each.rest.now c.each.plans.items in
    let Q : List Judged → Type 0 = λ plans. IsRead c.args.places.now c.args.bytes.now c.in-Some.others.now c.in_ok-plan.after.now plans in
    subst Q (sym c.in_ok-push.ensures.items)
    (one_more c.args.places.now c.args.bytes.now c.in-Some.variables.now c.in-Some.others.now c.each.rest.now c.each.plans.items c.in_ok-plan.plan c.in_ok-plan.after.now
    (subst P left c.each.invariant) c.in_ok-plan.ensures.fits c.in_ok-plan.ensures.found)

pub returns-clause-fits : goal.returns-clause-fits
returns-clause-fits c =
    all_fit c.args.places.now c.args.bytes.now c.each.left.now c.each.rest.now c.each.plans.items c.in_default.ensures.cases c.each.invariant
