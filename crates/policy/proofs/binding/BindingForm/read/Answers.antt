use Rattle.std.proofs.Common.{sym, ap, ◌∙◌, refl}
use Rattle.std.specs.Prelude.{codes}
use Rattle.serde_json.specs.Find.{as_str}
use Rattle.serde_json.specs.View.{view}
use Rattle.std.proofs.lemmas.Result.{IfOk-from_err}
use Rattle.names.specs.Name.{is_name}
use Rattle.policy.specs.Bindings.{action_of}
use Rattle.policy.specs.Forms.{field, list_of, only, perhaps}
use Rattle.policy.specs.MatchRules.{match_rules_of}
use Rattle.policy.specs.Rules.{MatchRules}
use Rattle.policy.proofs.Steps.{on, off, on_both, off_both, passed, kept, failed, same_fault}
use Rattle.policy.proofs.binding.BindingForm.read.Goals as goal

pub returns-in_err-policy_name-clause-read : goal.returns-in_err-policy_name-clause-read
returns-in_err-policy_name-clause-read c = IfOk-from_err c.from_residual.result _ c.from_residual.ensures.0

pub returns-in_err-policy_name-clause-refused : goal.returns-in_err-policy_name-clause-refused
returns-in_err-policy_name-clause-refused c = λ told.
    let d = view c.args.part.now in
    passed _ _ _ (sym c.has_only.ensures ∙ c.if-not-has_only.false)
    (failed is_name (field (codes "policyName") as_str d) _ (c.policy_name.ensures.refused (same_fault c.from_residual.ensures.1 c.in_err-policy_name.was told)))

pub returns-in_err-only_action-clause-read : goal.returns-in_err-only_action-clause-read
returns-in_err-only_action-clause-read c = IfOk-from_err c.from_residual-in_err-only_action.result _ c.from_residual-in_err-only_action.ensures.0

pub returns-in_err-only_action-clause-refused : goal.returns-in_err-only_action-clause-refused
returns-in_err-only_action-clause-refused c = λ told.
    let d = view c.args.part.now in
    passed _ _ _ (sym c.has_only.ensures ∙ c.if-not-has_only.false)
    (kept is_name (field (codes "policyName") as_str d) _ _ _ c.in_ok-policy_name.ensures.read
    (off_both (field (codes "validationActions") (list_of action_of) d) only _ (c.only_action.ensures.refused (same_fault c.from_residual-in_err-only_action.ensures.1 c.in_err-only_action.was told))))

pub returns-in_err-optional_or-clause-read : goal.returns-in_err-optional_or-clause-read
returns-in_err-optional_or-clause-read c = IfOk-from_err c.from_residual-in_err-optional_or.result _ c.from_residual-in_err-optional_or.ensures.0

pub returns-in_err-optional_or-clause-refused : goal.returns-in_err-optional_or-clause-refused
returns-in_err-optional_or-clause-refused c = λ told.
    let d = view c.args.part.now in
    passed _ _ _ (sym c.has_only.ensures ∙ c.if-not-has_only.false)
    (kept is_name (field (codes "policyName") as_str d) _ _ _ c.in_ok-policy_name.ensures.read
    (on_both (field (codes "validationActions") (list_of action_of) d) only _ _ _ c.in_ok-only_action.ensures.read
    (off _ _ (ap (λ (m : MatchRules). perhaps (codes "matchResources") match_rules_of m d) (sym c.everything.ensures) ∙ c.optional_or.ensures.refused (same_fault c.from_residual-in_err-optional_or.ensures.1 c.in_err-optional_or.was told)))))

pub returns-in_err-optional-clause-read : goal.returns-in_err-optional-clause-read
returns-in_err-optional-clause-read c = IfOk-from_err c.from_residual-in_err-optional.result _ c.from_residual-in_err-optional.ensures.0

pub returns-in_err-optional-clause-refused : goal.returns-in_err-optional-clause-refused
returns-in_err-optional-clause-refused c = λ told.
    let d = view c.args.part.now in
    passed _ _ _ (sym c.has_only.ensures ∙ c.if-not-has_only.false)
    (kept is_name (field (codes "policyName") as_str d) _ _ _ c.in_ok-policy_name.ensures.read
    (on_both (field (codes "validationActions") (list_of action_of) d) only _ _ _ c.in_ok-only_action.ensures.read
    (on _ _ _ _ (ap (λ (m : MatchRules). perhaps (codes "matchResources") match_rules_of m d) (sym c.everything.ensures) ∙ c.in_ok-optional_or.ensures.read)
    (off _ _ (c.optional.ensures.refused (same_fault c.from_residual-in_err-optional.ensures.1 c.in_err-optional.was told))))))

pub returns-clause-read : goal.returns-clause-read
returns-clause-read c =
    let d = view c.args.part.now in
    passed _ _ _ (sym c.has_only.ensures ∙ c.if-not-has_only.false)
    (kept is_name (field (codes "policyName") as_str d) _ _ _ c.in_ok-policy_name.ensures.read
    (on_both (field (codes "validationActions") (list_of action_of) d) only _ _ _ c.in_ok-only_action.ensures.read
    (on _ _ _ _ (ap (λ (m : MatchRules). perhaps (codes "matchResources") match_rules_of m d) (sym c.everything.ensures) ∙ c.in_ok-optional_or.ensures.read)
    (on _ _ _ _ c.in_ok-optional.ensures.read refl))))
