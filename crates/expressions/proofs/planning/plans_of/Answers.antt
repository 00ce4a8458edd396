use Rattle.std.proofs.Common.{◌≡◌, ◌≤◌, ℕ, length, map, ap, sym, subst, ◌∙◌}
use Rattle.expressions.specs.Seen.{source_seen}
use Rattle.expressions.specs.Variables.{variables_among}
use Rattle.policy.specs.Spec.{policy_seen}
use Rattle.expressions.proofs.Compiling.{count_sources}
use Rattle.expressions.proofs.planning.plans_of.Goals as goal

pub plans-requires-clause-few : goal.plans-requires-clause-few
plans-requires-clause-few c =
    let same : variables_among (map source_seen c.deref.result.now) ≡ length (policy_seen c.args.policy.now).variables =
    ap variables_among (ap (map source_seen) c.deref.ensures.value ∙ c.in_ok-sources.ensures) ∙ count_sources (policy_seen c.args.policy.now) in
    subst (λ (n : ℕ). n ≤ 65535) (sym same) c.requires.few
