use Rattle.std.proofs.Common.{sym, ap, ◌∙◌, refl}
use Rattle.std.specs.Prelude.{Some}
use Rattle.std.proofs.lemmas.List.{map-id}
use Rattle.std.proofs.lemmas.Result.{IfOk-from_err}
use Rattle.policy.proofs.Steps.{on, off, passed, same_fault}
use Rattle.policy.proofs.rules.RuleForm.read.Goals as goal

pub returns-in_err-required_filled_list-clause-read : goal.returns-in_err-required_filled_list-clause-read
returns-in_err-required_filled_list-clause-read c = IfOk-from_err c.from_residual.result _ c.from_residual.ensures.0

pub returns-in_err-required_filled_list-clause-refused : goal.returns-in_err-required_filled_list-clause-refused
returns-in_err-required_filled_list-clause-refused c = λ told.
    passed _ _ _ (sym c.has_only.ensures ∙ c.if-not-has_only.false)
    (off _ _ (c.required_filled_list.ensures.refused (same_fault c.from_residual.ensures.1 c.in_err-required_filled_list.was told)))

pub returns-in_err-required_filled_list-2-clause-read : goal.returns-in_err-required_filled_list-2-clause-read
returns-in_err-required_filled_list-2-clause-read c = IfOk-from_err c.from_residual-in_err-required_filled_list-2.result _ c.from_residual-in_err-required_filled_list-2.ensures.0

pub returns-in_err-required_filled_list-2-clause-refused : goal.returns-in_err-required_filled_list-2-clause-refused
returns-in_err-required_filled_list-2-clause-refused c = λ told.
    passed _ _ _ (sym c.has_only.ensures ∙ c.if-not-has_only.false)
    (on _ _ _ _ c.in_ok-required_filled_list.ensures.read
    (off _ _ (c.required_filled_list-2.ensures.refused (same_fault c.from_residual-in_err-required_filled_list-2.ensures.1 c.in_err-required_filled_list-2.was told))))

pub returns-in_err-required_filled_list-3-clause-read : goal.returns-in_err-required_filled_list-3-clause-read
returns-in_err-required_filled_list-3-clause-read c = IfOk-from_err c.from_residual-in_err-required_filled_list-3.result _ c.from_residual-in_err-required_filled_list-3.ensures.0

pub returns-in_err-required_filled_list-3-clause-refused : goal.returns-in_err-required_filled_list-3-clause-refused
returns-in_err-required_filled_list-3-clause-refused c = λ told.
    passed _ _ _ (sym c.has_only.ensures ∙ c.if-not-has_only.false)
    (on _ _ _ _ c.in_ok-required_filled_list.ensures.read
    (on _ _ _ _ c.in_ok-required_filled_list-2.ensures.read
    (off _ _ (c.required_filled_list-3.ensures.refused (same_fault c.from_residual-in_err-required_filled_list-3.ensures.1 c.in_err-required_filled_list-3.was told)))))

pub returns-in_err-required_filled_list-4-clause-read : goal.returns-in_err-required_filled_list-4-clause-read
returns-in_err-required_filled_list-4-clause-read c = IfOk-from_err c.from_residual-in_err-required_filled_list-4.result _ c.from_residual-in_err-required_filled_list-4.ensures.0

pub returns-in_err-required_filled_list-4-clause-refused : goal.returns-in_err-required_filled_list-4-clause-refused
returns-in_err-required_filled_list-4-clause-refused c = λ told.
    passed _ _ _ (sym c.has_only.ensures ∙ c.if-not-has_only.false)
    (on _ _ _ _ c.in_ok-required_filled_list.ensures.read
    (on _ _ _ _ c.in_ok-required_filled_list-2.ensures.read
    (on _ _ _ _ c.in_ok-required_filled_list-3.ensures.read
    (off _ _ (c.required_filled_list-4.ensures.refused (same_fault c.from_residual-in_err-required_filled_list-4.ensures.1 c.in_err-required_filled_list-4.was told))))))

pub returns-in_err-resource_names-clause-read : goal.returns-in_err-resource_names-clause-read
returns-in_err-resource_names-clause-read c = IfOk-from_err c.from_residual-in_err-resource_names.result _ c.from_residual-in_err-resource_names.ensures.0

pub returns-in_err-resource_names-clause-refused : goal.returns-in_err-resource_names-clause-refused
returns-in_err-resource_names-clause-refused c = λ told.
    passed _ _ _ (sym c.has_only.ensures ∙ c.if-not-has_only.false)
    (on _ _ _ _ c.in_ok-required_filled_list.ensures.read
    (on _ _ _ _ c.in_ok-required_filled_list-2.ensures.read
    (on _ _ _ _ c.in_ok-required_filled_list-3.ensures.read
    (on _ _ _ _ c.in_ok-required_filled_list-4.ensures.read
    (off _ _ (c.resource_names.ensures.refused (same_fault c.from_residual-in_err-resource_names.ensures.1 c.in_err-resource_names.was told)))))))

pub returns-in_err-optional_or-clause-read : goal.returns-in_err-optional_or-clause-read
returns-in_err-optional_or-clause-read c = IfOk-from_err c.from_residual-in_err-optional_or.result _ c.from_residual-in_err-optional_or.ensures.0

pub returns-in_err-optional_or-clause-refused : goal.returns-in_err-optional_or-clause-refused
returns-in_err-optional_or-clause-refused c = λ told.
    passed _ _ _ (sym c.has_only.ensures ∙ c.if-not-has_only.false)
    (on _ _ _ _ c.in_ok-required_filled_list.ensures.read
    (on _ _ _ _ c.in_ok-required_filled_list-2.ensures.read
    (on _ _ _ _ c.in_ok-required_filled_list-3.ensures.read
    (on _ _ _ _ c.in_ok-required_filled_list-4.ensures.read
    (on _ _ _ _ c.in_ok-resource_names.ensures.read
    (off _ _ (c.optional_or.ensures.refused (same_fault c.from_residual-in_err-optional_or.ensures.1 c.in_err-optional_or.was told))))))))

pub returns-clause-read : goal.returns-clause-read
returns-clause-read c =
    passed _ _ _ (sym c.has_only.ensures ∙ c.if-not-has_only.false)
    (on _ _ _ _ (c.in_ok-required_filled_list.ensures.read ∙ ap Some (map-id _))
    (on _ _ _ _ c.in_ok-required_filled_list-2.ensures.read
    (on _ _ _ _ c.in_ok-required_filled_list-3.ensures.read
    (on _ _ _ _ c.in_ok-required_filled_list-4.ensures.read
    (on _ _ _ _ c.in_ok-resource_names.ensures.read
    (on _ _ _ _ c.in_ok-optional_or.ensures.read refl))))))
