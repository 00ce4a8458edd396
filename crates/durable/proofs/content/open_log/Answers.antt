use Rattle.std.proofs.Common.{◌∙◌, sym, ap, Err}
use Rattle.checkpoint.proofs.Faults.{err_is}
use Rattle.durable.specs.declared.fault.Fault.TheVariants as Fault
use Rattle.durable.proofs.FoundFaults.{only_damaged, opened_log}
use Rattle.durable.proofs.content.open_log.Goals as goal

pub returns-clause-found : goal.returns-clause-found
returns-clause-found g c keeps =
    let found = c.in_ok-open.ensures.found keeps in
    (found.0, c.in_ok-open.ensures.counted keeps found.0 found.1, found.1)

pub returns-in_err-open-clause-unfailed : goal.returns-in_err-open-clause-unfailed
returns-in_err-open-clause-unfailed g c told =
    absurd (opened_log c.open.result c.in_err-open.field-0.0 c.in_err-open.was c.open.ensures.refusal
    (sym (err_is c.from_residual.result _ Fault.Memory c.from_residual.ensures.1 told)))

pub returns-in_err-open-clause-unfailed_damaged : goal.returns-in_err-open-clause-unfailed_damaged
returns-in_err-open-clause-unfailed_damaged g c damage told =
    c.open.ensures.unfailed (c.in_err-open.was ∙ ap Err (only_damaged c.in_err-open.field-0.0 damage (sym (err_is c.from_residual.result _ (Fault.Damaged damage) c.from_residual.ensures.1 told))))
