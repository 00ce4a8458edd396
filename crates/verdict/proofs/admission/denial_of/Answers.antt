use Rattle.std.proofs.Common.{◌≡◌, List, [], Option, Some, None, option_map, sym, ap, subst, ◌∙◌, rules, IsTrue}
use Rattle.std.specs.Prelude.{option_and_then}
use Rattle.std.specs.Option.{option_map_or}
use Rattle.std.proofs.lemmas.Result.{IfOk-weaker}
use Rattle.policy.specs.Matching.{is_matched}
use Rattle.policy.specs.Rules.{attempt_seen}
use Rattle.plancode.specs.Plans.{Judged}
use Rattle.policy.specs.Policies.{policy_of}
use Rattle.policy.specs.Spec.{Policy, Binding, policy_seen, binding_seen}
use Rattle.expressions.specs.Plans.{plans_of}
use Rattle.expressions.specs.Specification.{plans_in}
use Rattle.verdict.specs.Ready.{AreReady, AreTypedInSome}
use Rattle.verdict.specs.DenialSeen.{denial_seen}
use Rattle.verdict.specs.Objects.{Held, shown_objects}
use Rattle.verdict.specs.OneBinding.{denial}
use Rattle.verdict.specs.Turns.{denial_by_policy}
use Rattle.verdict.proofs.admission.denial_of.Goals as goal

pub returns-in-Some-clause-found : goal.returns-in-Some-clause-found
unfolding AreTypedInSome
returns-in-Some-clause-found g c = λ objects object shows trees same.
    let p = policy_seen c.in-Some.policy.now in
    let b = c.args.bound.now in
    let w = attempt_seen c.args.attempt.now in
    let read : option_map (λ q. policy_seen q.now) c.args.found.now.policy ≡ Some p = search rules in
    let is : policy_of object.document.json ≡ Some p = ap (λ (h : Held). h.policy) (sym same) ∙ read in
    let plans : List Judged = plans_in object.document.json object.trees in
    let ready : AreReady p object.trees plans = record { typed = trees p is; compiled = ap (λ (o : Option Policy). option_map_or (λ q. plans_of q object.trees) o []) is } in
    let bound : binding_seen c.binding-binding.result.now ≡ b = c.binding-binding.ensures in
    IfOk-weaker c.denial.result
    (λ o. option_map denial_seen o ≡ denial (shown_objects objects) p object.trees (binding_seen c.binding-binding.result.now) w)
    (λ o. option_map denial_seen o ≡ denial_by_policy objects w b object)
    (λ o given. given ∙ ap (λ (x : Binding). denial (shown_objects objects) p object.trees x w) bound
    ∙ sym (ap (λ (x : Option Policy). option_and_then (λ q. denial (shown_objects objects) q object.trees b w) x) is))
    (c.denial.ensures.found objects object.trees plans shows (ap (λ (h : Held). h.plans) same) ready)

pub returns-in-Some-clause-never_passed : goal.returns-in-Some-clause-never_passed
returns-in-Some-clause-never_passed g c = λ p bytes spells plans matched.
    let w = attempt_seen c.args.attempt.now in
    let read : option_map (λ q. policy_seen q.now) c.args.found.now.policy ≡ Some (policy_seen c.in-Some.policy.now) = search rules in
    let same : ◌≡◌ {A = Option Policy} (Some (policy_seen c.in-Some.policy.now)) (Some p) = sym read ∙ spells in
    let is : p ≡ policy_seen c.in-Some.policy.now = cc in
    let bound : binding_seen c.binding-binding.result.now ≡ c.args.bound.now = c.binding-binding.ensures in
    let ForPolicy : Policy → Type 0 = λ q. IsTrue (is_matched q.constraints c.args.bound.now.resources w) in
    let ForBinding : Binding → Type 0 = λ b. IsTrue (is_matched (policy_seen c.in-Some.policy.now).constraints b.resources w) in
    c.denial.ensures.never_passed bytes plans (subst ForBinding (sym bound) (subst ForPolicy is matched))

pub returns-in-None-clause-never_passed : goal.returns-in-None-clause-never_passed
returns-in-None-clause-never_passed g c = λ p bytes spells plans matched.
    let none : ◌≡◌ {A = Option Policy} None (Some p) = search rules in
    cc
