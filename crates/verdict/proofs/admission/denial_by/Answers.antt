use Rattle.std.proofs.Common.{◌≡◌, Option, Some, None, option_map, sym, ap, ◌∙◌, rules}
use Rattle.std.specs.Prelude.{option_and_then}
use Rattle.std.proofs.lemmas.Result.{IfOk-weaker}
use Rattle.names.specs.Key.{Key}
use Rattle.objects.specs.Objects.{value_at}
use Rattle.policy.specs.Rules.{attempt_seen}
use Rattle.verdict.specs.DenialSeen.{denial_seen}
use Rattle.expressions.specs.Bindings.{policy_key}
use Rattle.verdict.specs.Objects.{Object, all_held}
use Rattle.verdict.specs.LookupSeen.{held_by}
use Rattle.verdict.specs.Admission.{denial_by}
use Rattle.verdict.specs.Turns.{denial_by_policy}
use Rattle.verdict.specs.Objects.{Held}
use Rattle.verdict.proofs.Standing.{found_policy, plans_held, no_policy}
use Rattle.verdict.proofs.Spoiling.{found_asked}
use Rattle.verdict.proofs.admission.denial_by.Goals as goal

pub returns-clause-found : goal.returns-clause-found
returns-clause-found g c = λ objects shows trees.
    let b = c.args.bound.now in
    let w = attempt_seen c.args.attempt.now in
    let told = c.policy.ensures.found objects shows in
    let is : Some (held_by c.in-Some.found) ≡ value_at (policy_key b.policy) (all_held objects) = search rules in
    let found = found_policy objects b.policy (held_by c.in-Some.found) trees is in
    IfOk-weaker c.denial_of.result
    (λ o. option_map denial_seen o ≡ denial_by_policy objects w b found.object)
    (λ o. option_map denial_seen o ≡ denial_by objects w b)
    (λ o given. given ∙ sym (ap (λ (x : Option Object). option_and_then (λ y. denial_by_policy objects w b y) x) found.stands))
    (c.denial_of.ensures.found objects found.object shows found.trees found.same)

pub returns-in-None-clause-found : goal.returns-in-None-clause-found
returns-in-None-clause-found g c = λ objects shows trees.
    let b = c.args.bound.now in
    let w = attempt_seen c.args.attempt.now in
    let is : None ≡ option_map held_by c.policy.result = search rules in
    let none : None ≡ value_at (policy_key b.policy) (all_held objects) = is ∙ c.policy.ensures.found objects shows ∙ ap (λ (k : Key). value_at k (all_held objects)) c.policy_key.ensures in
    sym (ap (λ (x : Option Object). option_and_then (λ y. denial_by_policy objects w b y) x) (no_policy objects b.policy none))

pub returns-clause-damaged : goal.returns-clause-damaged
returns-clause-damaged g c = λ part told objects shows.
    let b = c.args.bound.now in
    let look = c.policy.ensures.found objects shows in
    let is : Some (held_by c.in-Some.found) ≡ value_at (policy_key b.policy) (all_held objects) = search rules in
    let plans = plans_held objects b.policy (held_by c.in-Some.found) is in
    let damaged : g.L.Lookup.is_damaged c.denial_of.new.lookup = c.denial_of.ensures.damaged part told plans.0 plans.1 in
    let still : g.L.Lookup.shows c.denial_of.new.lookup objects = c.denial_of.ensures.kept objects shows in
    search rules

pub returns-clause-never_passed : goal.returns-clause-never_passed
returns-clause-never_passed g c = λ all lends asks.
    let b = c.args.bound.now in
    let lent = c.policy.ensures.lent all lends in
    let is : Some (held_by c.in-Some.found) ≡ value_at (policy_key b.policy) all = search rules in
    let same : held_by c.in-Some.found ≡ asks.found = found_asked all (attempt_seen c.args.attempt.now) b (held_by c.in-Some.found) asks is in
    c.denial_of.ensures.never_passed asks.policy asks.bytes (ap (λ (h : Held). h.policy) same ∙ asks.spells) (ap (λ (h : Held). h.plans) same ∙ asks.plans) asks.matched

pub returns-in-None-clause-never_passed : goal.returns-in-None-clause-never_passed
returns-in-None-clause-never_passed g c = λ all lends asks.
    let b = c.args.bound.now in
    let is : None ≡ option_map held_by c.policy.result = search rules in
    let none : None ≡ Some asks.found = is ∙ c.policy.ensures.lent all lends ∙ ap (λ (k : Key). value_at k all) c.policy_key.ensures ∙ asks.stands in
    cc
