use Rattle.std.proofs.Common.{rules, subst}
use Rattle.names.specs.declared.resource.Resource.{Resource}
use Rattle.expressions.proofs.OtherPlans.{AreOther, policy_has_some, others_have_none}
use Rattle.expressions.proofs.stored.stored_plans.Goals as goal

pub returns-in-ValidatingAdmissionPolicy-clause-refused : goal.returns-in-ValidatingAdmissionPolicy-clause-refused
returns-in-ValidatingAdmissionPolicy-clause-refused c = λ other.
    let Other : Resource → Type 0 = λ r. AreOther r c.args.document.now c.args.bytes.now in
    absurd (policy_has_some c.args.document.now c.args.bytes.now (subst Other c.in-ValidatingAdmissionPolicy.is other))

pub returns-in-ValidatingAdmissionPolicyBinding-clause-refused : goal.returns-in-ValidatingAdmissionPolicyBinding-clause-refused
returns-in-ValidatingAdmissionPolicyBinding-clause-refused c = λ other.
    c.no_plans.ensures.refused (others_have_none c.args.resource c.args.document.now c.args.bytes.now (λ is. search rules) other)
