use Rattle.std.proofs.lemmas.Result.{IfOk-from_err}
use Rattle.std.proofs.Common.{rules, ◌≡◌, sym, subst}
use Rattle.policy.specs.Rules.{attempt_seen}
use Rattle.policy.specs.Spec.{Binding, binding_seen}
use Rattle.verdict.specs.DenialSeen.{denial_seen}
use Rattle.verdict.specs.Spoiled.{AsksSpoiled}
use Rattle.verdict.proofs.Faults.{same_fault, no_fault}
use Rattle.verdict.proofs.Spoiling.{passed_on, decided_denies}
use Rattle.verdict.proofs.admission.turn.Goals as goal

pub returns-in_err-denial-clause-told : goal.returns-in_err-denial-clause-told
returns-in_err-denial-clause-told g c = IfOk-from_err c.from_residual.result _ c.from_residual.ensures.0

pub returns-in_err-denial-clause-found : goal.returns-in_err-denial-clause-found
returns-in_err-denial-clause-found g c = λ objects shows trees rest. IfOk-from_err c.from_residual.result _ c.from_residual.ensures.0

pub returns-in_err-denial-clause-device : goal.returns-in_err-denial-clause-device
returns-in_err-denial-clause-device g c = λ told.
    c.denial_by.ensures.device (same_fault c.from_residual.ensures.1 c.in_err-denial.was told)

pub returns-in_err-denial-clause-damaged : goal.returns-in_err-denial-clause-damaged
returns-in_err-denial-clause-damaged g c = λ part told.
    c.denial_by.ensures.damaged part (same_fault c.from_residual.ensures.1 c.in_err-denial.was told)

pub returns-in_err-decided-in-Some-clause-told : goal.returns-in_err-decided-in-Some-clause-told
returns-in_err-decided-in-Some-clause-told g c =
    IfOk-from_err c.from_residual-in_err-decided-in-Some.result _ c.from_residual-in_err-decided-in-Some.ensures.0

pub returns-in_err-decided-in-Some-clause-found : goal.returns-in_err-decided-in-Some-clause-found
returns-in_err-decided-in-Some-clause-found g c = λ objects shows trees rest.
    IfOk-from_err c.from_residual-in_err-decided-in-Some.result _ c.from_residual-in_err-decided-in-Some.ensures.0

pub returns-in_err-denial-clause-kept : goal.returns-in_err-denial-clause-kept
returns-in_err-denial-clause-kept g c = c.denial_by.ensures.kept

pub returns-in_err-denial-clause-goes : goal.returns-in_err-denial-clause-goes
returns-in_err-denial-clause-goes g c = c.denial_by.ensures.goes

pub returns-in_err-denial-clause-counts : goal.returns-in_err-denial-clause-counts
returns-in_err-denial-clause-counts g c = c.denial_by.ensures.counts

pub returns-in_err-decided-in-Some-clause-kept : goal.returns-in_err-decided-in-Some-clause-kept
returns-in_err-decided-in-Some-clause-kept g c = c.denial_by.ensures.kept

pub returns-in_err-decided-in-Some-clause-goes : goal.returns-in_err-decided-in-Some-clause-goes
returns-in_err-decided-in-Some-clause-goes g c = c.denial_by.ensures.goes

pub returns-in_err-decided-in-Some-clause-counts : goal.returns-in_err-decided-in-Some-clause-counts
returns-in_err-decided-in-Some-clause-counts g c = c.denial_by.ensures.counts

pub returns-in_ok-decided-in-Some-clause-kept : goal.returns-in_ok-decided-in-Some-clause-kept
returns-in_ok-decided-in-Some-clause-kept g c = c.denial_by.ensures.kept

pub returns-in_ok-decided-in-Some-clause-goes : goal.returns-in_ok-decided-in-Some-clause-goes
returns-in_ok-decided-in-Some-clause-goes g c = c.denial_by.ensures.goes

pub returns-in_ok-decided-in-Some-clause-counts : goal.returns-in_ok-decided-in-Some-clause-counts
returns-in_ok-decided-in-Some-clause-counts g c = c.denial_by.ensures.counts

pub returns-in-None-clause-kept : goal.returns-in-None-clause-kept
returns-in-None-clause-kept g c = c.denial_by.ensures.kept

pub returns-in-None-clause-goes : goal.returns-in-None-clause-goes
returns-in-None-clause-goes g c = c.denial_by.ensures.goes

pub returns-in-None-clause-counts : goal.returns-in-None-clause-counts
returns-in-None-clause-counts g c = c.denial_by.ensures.counts

pub returns-in_ok-decided-in-Some-clause-device : goal.returns-in_ok-decided-in-Some-clause-device
returns-in_ok-decided-in-Some-clause-device g c = λ told. absurd (no_fault told)

pub returns-in_ok-decided-in-Some-clause-damaged : goal.returns-in_ok-decided-in-Some-clause-damaged
returns-in_ok-decided-in-Some-clause-damaged g c = λ part told. absurd (no_fault told)

pub returns-in-None-clause-device : goal.returns-in-None-clause-device
returns-in-None-clause-device g c = λ told. absurd (no_fault told)

pub returns-in-None-clause-damaged : goal.returns-in-None-clause-damaged
returns-in-None-clause-damaged g c = λ part told. absurd (no_fault told)

pub returns-in_err-denial-clause-never_passed : goal.returns-in_err-denial-clause-never_passed
returns-in_err-denial-clause-never_passed g c = λ all lends asks.
    let is : c.named.inside.bound.now ≡ c.args.named.now.1 = search rules in
    let Asks : Binding → Type 0 = λ b. AsksSpoiled all (attempt_seen c.args.attempt.now) b in
    passed_on c.from_residual.ensures.1 c.in_err-denial.was (c.denial_by.ensures.never_passed all lends (subst Asks (sym is) asks))

pub returns-in_ok-decided-in-Some-clause-denies : goal.returns-in_ok-decided-in-Some-clause-denies
returns-in_ok-decided-in-Some-clause-denies g c = decided_denies c.in_ok-decided-in-Some.field-0 _ _ _ (binding_seen c.binding.result.now) (denial_seen c.in-Some.denial) c.in_ok-decided-in-Some.ensures

pub returns-in_err-denial-clause-memory : goal.returns-in_err-denial-clause-memory
returns-in_err-denial-clause-memory g c = λ told.
    c.denial_by.ensures.memory (same_fault c.from_residual.ensures.1 c.in_err-denial.was told)

pub returns-in_err-denial-clause-damage : goal.returns-in_err-denial-clause-damage
returns-in_err-denial-clause-damage g c = λ part told.
    c.denial_by.ensures.damage part (same_fault c.from_residual.ensures.1 c.in_err-denial.was told)
