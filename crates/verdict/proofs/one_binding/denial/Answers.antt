use Rattle.std.proofs.Common.{rules, ◌≡◌, List, subst, sym, ◌∙◌}
use Rattle.std.proofs.lemmas.Result.{IfOk-weaker}
use Rattle.plancode.specs.Plans.{Judged}
use Rattle.policy.specs.Rules.{attempt_seen}
use Rattle.policy.specs.Spec.{policy_seen, binding_seen}
use Rattle.expressions.specs.Specification.{these}
use Rattle.verdict.specs.Ready.{AreReady}
use Rattle.verdict.specs.Objects.{shown_objects}
use Rattle.verdict.proofs.BindingTurns.{said}
use Rattle.verdict.proofs.one_binding.denial.Goals as goal

pub returns-clause-found : goal.returns-clause-found
returns-clause-found g c = λ objects trees known shows plans ready.
    let same : these known ≡ these c.deref.result.now = search rules in
    let is : known ≡ c.deref.result.now = cc in
    let Ready : List Judged → Type 0 = λ x. AreReady (policy_seen c.args.policy.now) trees x in
    IfOk-weaker c.asked-denial.result _ _
    (λ o found. found
    ∙ said (shown_objects objects) (policy_seen c.args.policy.now) trees (binding_seen c.args.binding.now) (attempt_seen c.args.attempt.now)
    (sym c.matches.ensures ∙ c.if-not-matches.false))
    (c.asked-denial.ensures.found objects trees shows (subst Ready is ready))

pub returns-clause-kept : goal.returns-clause-kept
returns-clause-kept g c = c.asked-denial.ensures.kept

pub returns-clause-goes : goal.returns-clause-goes
returns-clause-goes g c = c.asked-denial.ensures.goes

pub returns-clause-counts : goal.returns-clause-counts
returns-clause-counts g c = c.asked-denial.ensures.counts

pub returns-clause-device : goal.returns-clause-device
returns-clause-device g c = c.asked-denial.ensures.device

pub returns-clause-damaged : goal.returns-clause-damaged
returns-clause-damaged g c = λ part told ready plans. c.asked-denial.ensures.damaged part told
