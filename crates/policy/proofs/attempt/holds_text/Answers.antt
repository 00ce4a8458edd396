use Rattle.std.proofs.Common.{rules, tests, sym, ◌∙◌}
use Rattle.std.proofs.lemmas.Iterator.{YieldsList-from_slice}
use Rattle.std.proofs.lemmas.Iterator.Search.{any_from_yields_List}
use Rattle.policy.specs.Matching.{is_text}
use Rattle.policy.specs.Rules.{entry_seen}
use Rattle.documents.proofs.Lists.{list_any-map}
use Rattle.policy.proofs.attempt.holds_text.Goals as goal

pub returns : goal.returns
returns c =
    any_from_yields_List (λ x. is_text c.args.text.now (entry_seen x)) _ _ _ c.any.ensures.ran (YieldsList-from_slice c.args.entries.now (cc)) (λ x b q k. search (rules, tests))
    ∙ sym (list_any-map (is_text c.args.text.now) entry_seen c.args.entries.now)
