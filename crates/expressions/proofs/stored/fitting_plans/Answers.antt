use Rattle.std.proofs.Common.{rules, ◌≡◌, subst, List, ℕ, Some}
use Rattle.std.proofs.lemmas.Result.{IfOk-weaker}
use Rattle.plancode.specs.PlanList.{IsListFor}
use Rattle.policy.specs.Spec.{policy_seen}
use Rattle.expressions.specs.Places.{places_of, policy_in}
use Rattle.expressions.proofs.stored.fitting_plans.Goals as goal

pub returns-in-Some-clause-fits : goal.returns-in-Some-clause-fits
returns-in-Some-clause-fits c =
    let is : policy_in c.args.document.now ≡ Some (policy_seen c.in-Some.field-0-0) = search rules in
    let places : c.deref.result.now ≡ places_of (policy_seen c.in-Some.field-0-0) = search rules in
    IfOk-weaker c.read_plans.result (λ v. IsListFor c.deref.result.now v.items) _
    (λ v fits. (policy_seen c.in-Some.field-0-0, is, (let P : List ℕ → Type 0 = λ x. IsListFor x v.items in subst P places fits))) c.read_plans.ensures.fits
