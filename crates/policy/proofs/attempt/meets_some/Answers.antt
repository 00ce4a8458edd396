use Rattle.std.proofs.Common.{rules, tests, sym, ◌∙◌}
use Rattle.std.proofs.lemmas.Iterator.{YieldsList-from_slice}
use Rattle.std.proofs.lemmas.Iterator.Search.{any_from_yields_List}
use Rattle.policy.specs.Matching.{meets_rule}
use Rattle.policy.specs.Rules.{attempt_seen, rule_seen}
use Rattle.documents.proofs.Lists.{list_any-map}
use Rattle.policy.proofs.attempt.meets_some.Goals as goal

pub returns : goal.returns
returns c =
    any_from_yields_List (λ x. meets_rule (attempt_seen c.args.attempt.now) (rule_seen x)) _ _ _ c.any.ensures.ran (YieldsList-from_slice c.args.rules.now (cc)) (λ x b q k. search (rules, tests))
    ∙ sym (list_any-map (meets_rule (attempt_seen c.args.attempt.now)) rule_seen c.args.rules.now)
