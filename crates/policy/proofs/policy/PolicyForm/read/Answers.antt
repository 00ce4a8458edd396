use Rattle.std.proofs.Common.{sym, ap, ◌∙◌, refl}
use Rattle.std.specs.Prelude.{[], Some, codes}
use Rattle.serde_json.specs.View.{view}
use Rattle.policy.specs.Forms.{field, perhaps, list_of}
use Rattle.policy.specs.MatchRules.{match_rules_of}
use Rattle.std.proofs.lemmas.Result.{IfOk-from_err}
use Rattle.policy.specs.Policies.{named_of, has_rules, are_conditions, are_variables}
use Rattle.policy.proofs.Gathering.{same_option}
use Rattle.policy.proofs.Steps.{on, off, passed, kept, failed, same_fault}
use Rattle.policy.proofs.policy.PolicyForm.read.Goals as goal

pub returns-in_err-optional_or-clause-read : goal.returns-in_err-optional_or-clause-read
returns-in_err-optional_or-clause-read c = IfOk-from_err c.from_residual.result _ c.from_residual.ensures.0

pub returns-in_err-optional_or-clause-refused : goal.returns-in_err-optional_or-clause-refused
returns-in_err-optional_or-clause-refused c = λ told.
    passed _ _ _ (sym c.has_only.ensures ∙ c.if-not-has_only.false)
    (off _ _ (c.optional_or.ensures.refused (same_fault c.from_residual.ensures.1 c.in_err-optional_or.was told)))

pub returns-in_err-optional-clause-read : goal.returns-in_err-optional-clause-read
returns-in_err-optional-clause-read c = IfOk-from_err c.from_residual-in_err-optional.result _ c.from_residual-in_err-optional.ensures.0

pub returns-in_err-optional-clause-refused : goal.returns-in_err-optional-clause-refused
returns-in_err-optional-clause-refused c = λ told.
    passed _ _ _ (sym c.has_only.ensures ∙ c.if-not-has_only.false)
    (on _ _ _ _ c.in_ok-optional_or.ensures.read
    (off _ _ (c.optional.ensures.refused (same_fault c.from_residual-in_err-optional.ensures.1 c.in_err-optional.was told))))

pub returns-in_err-constraints-clause-read : goal.returns-in_err-constraints-clause-read
returns-in_err-constraints-clause-read c = IfOk-from_err c.from_residual-in_err-constraints.result _ c.from_residual-in_err-constraints.ensures.0

pub returns-in_err-constraints-clause-refused : goal.returns-in_err-constraints-clause-refused
returns-in_err-constraints-clause-refused c = λ told.
    let d = view c.args.part.now in
    passed _ _ _ (sym c.has_only.ensures ∙ c.if-not-has_only.false)
    (on _ _ _ _ c.in_ok-optional_or.ensures.read
    (on _ _ _ _ c.in_ok-optional.ensures.read
    (failed has_rules (field (codes "matchConstraints") match_rules_of d) _ (c.constraints.ensures.refused (same_fault c.from_residual-in_err-constraints.ensures.1 c.in_err-constraints.was told)))))

pub returns-in_err-conditions-clause-read : goal.returns-in_err-conditions-clause-read
returns-in_err-conditions-clause-read c = IfOk-from_err c.from_residual-in_err-conditions.result _ c.from_residual-in_err-conditions.ensures.0

pub returns-in_err-conditions-clause-refused : goal.returns-in_err-conditions-clause-refused
returns-in_err-conditions-clause-refused c = λ told.
    let d = view c.args.part.now in
    passed _ _ _ (sym c.has_only.ensures ∙ c.if-not-has_only.false)
    (on _ _ _ _ c.in_ok-optional_or.ensures.read
    (on _ _ _ _ c.in_ok-optional.ensures.read
    (kept has_rules (field (codes "matchConstraints") match_rules_of d) _ _ _ c.in_ok-constraints.ensures.read
    (failed are_conditions (perhaps (codes "matchConditions") (list_of named_of) [] d) _ (c.conditions.ensures.refused (same_fault c.from_residual-in_err-conditions.ensures.1 c.in_err-conditions.was told))))))

pub returns-in_err-variables-clause-read : goal.returns-in_err-variables-clause-read
returns-in_err-variables-clause-read c = IfOk-from_err c.from_residual-in_err-variables.result _ c.from_residual-in_err-variables.ensures.0

pub returns-in_err-variables-clause-refused : goal.returns-in_err-variables-clause-refused
returns-in_err-variables-clause-refused c = λ told.
    let d = view c.args.part.now in
    passed _ _ _ (sym c.has_only.ensures ∙ c.if-not-has_only.false)
    (on _ _ _ _ c.in_ok-optional_or.ensures.read
    (on _ _ _ _ c.in_ok-optional.ensures.read
    (kept has_rules (field (codes "matchConstraints") match_rules_of d) _ _ _ c.in_ok-constraints.ensures.read
    (kept are_conditions (perhaps (codes "matchConditions") (list_of named_of) [] d) _ _ _ c.in_ok-conditions.ensures.read
    (failed are_variables (perhaps (codes "variables") (list_of named_of) [] d) _ (c.variables.ensures.refused (same_fault c.from_residual-in_err-variables.ensures.1 c.in_err-variables.was told)))))))

pub returns-in_err-required_filled_list-clause-read : goal.returns-in_err-required_filled_list-clause-read
returns-in_err-required_filled_list-clause-read c = IfOk-from_err c.from_residual-in_err-required_filled_list.result _ c.from_residual-in_err-required_filled_list.ensures.0

pub returns-in_err-required_filled_list-clause-refused : goal.returns-in_err-required_filled_list-clause-refused
returns-in_err-required_filled_list-clause-refused c = λ told.
    let d = view c.args.part.now in
    passed _ _ _ (sym c.has_only.ensures ∙ c.if-not-has_only.false)
    (on _ _ _ _ c.in_ok-optional_or.ensures.read
    (on _ _ _ _ c.in_ok-optional.ensures.read
    (kept has_rules (field (codes "matchConstraints") match_rules_of d) _ _ _ c.in_ok-constraints.ensures.read
    (kept are_conditions (perhaps (codes "matchConditions") (list_of named_of) [] d) _ _ _ c.in_ok-conditions.ensures.read
    (kept are_variables (perhaps (codes "variables") (list_of named_of) [] d) _ _ _ c.in_ok-variables.ensures.read
    (off _ _ (c.required_filled_list.ensures.refused (same_fault c.from_residual-in_err-required_filled_list.ensures.1 c.in_err-required_filled_list.was told))))))))

pub returns-clause-read : goal.returns-clause-read
returns-clause-read c =
    let d = view c.args.part.now in
    passed _ _ _ (sym c.has_only.ensures ∙ c.if-not-has_only.false)
    (on _ _ _ _ c.in_ok-optional_or.ensures.read
    (on _ _ _ _ (c.in_ok-optional.ensures.read ∙ ap Some (same_option _))
    (kept has_rules (field (codes "matchConstraints") match_rules_of d) _ _ _ c.in_ok-constraints.ensures.read
    (kept are_conditions (perhaps (codes "matchConditions") (list_of named_of) [] d) _ _ _ c.in_ok-conditions.ensures.read
    (kept are_variables (perhaps (codes "variables") (list_of named_of) [] d) _ _ _ c.in_ok-variables.ensures.read
    (on _ _ _ _ c.in_ok-required_filled_list.ensures.read refl))))))
