use Rattle.std.proofs.Common.{◌≡◌, List, Some, map, drop}
use Rattle.celtree.specs.Tree.{Expr}
use Rattle.policy.specs.Rules.{attempt_seen}
use Rattle.policy.specs.Spec.{policy_seen}
use Rattle.verdict.specs.Environment.{seen}
use Rattle.verdict.specs.Denials.{first_denial, evaluate}
use Rattle.verdict.specs.Ready.{AreReady}
use Rattle.verdict.proofs.one_binding.first_denial.Given as goal

-- what is left decides
abbrev pub invariant-loop-document : goal.invariant-loop-document
invariant-loop-document l =
    (trees : List Expr) → AreReady (policy_seen l.policy) trees l.plans
    → first_denial (λ d. evaluate (policy_seen l.policy) trees (seen (attempt_seen l.attempt) d)) (map Some (drop l.document-index l.documents))
    ≡ first_denial (λ d. evaluate (policy_seen l.policy) trees (seen (attempt_seen l.attempt) d)) (map Some l.documents)
