use Rattle.std.proofs.Common.{sym}
use Rattle.std.proofs.lemmas.Result.{err_from_is_err_and}
use Rattle.policy.specs.Spec.{policy_seen}
use Rattle.serde_json.specs.View.{view}
use Rattle.expressions.proofs.Faults.{fault_of_document}
use Rattle.expressions.proofs.typed_policy.TypedPolicy.read.Goals as goal

pub returns-in_err-trees-clause-fault : goal.returns-in_err-trees-clause-fault
returns-in_err-trees-clause-fault c =
    let p = err_from_is_err_and c.from_residual-in_err-trees.result c.from_residual-in_err-trees.ensures.1 in
    rw (p.1, p.2)
    (fault_of_document c.args.format (view c.args.document.now) (policy_seen c.in-Some.policy) c.in_err-trees.field-0.0 (sym (rw c.in-Some.is at c.in_ok-policy.ensures.policy)) c.in_err-trees.ensures.fault)
