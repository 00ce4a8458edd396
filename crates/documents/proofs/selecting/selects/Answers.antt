use Rattle.std.proofs.Common.{rules, tests, sym, ◌∙◌}
use Rattle.std.proofs.lemmas.Iterator.{YieldsList-from_slice}
use Rattle.std.proofs.lemmas.Iterator.Search.{all_from_yields_List}
use Rattle.std.proofs.lemmas.List.Folds.{list_all-map}
use Rattle.documents.specs.Requirement.{requirement_seen}
use Rattle.documents.specs.Selecting.{meets}
use Rattle.serde_json.specs.View.{view}
use Rattle.documents.proofs.selecting.selects.Goals as goal

pub returns : goal.returns
returns c =
    all_from_yields_List (λ x. meets (view c.args.object.now) (requirement_seen x)) _ _ _ c.all.ensures.ran (YieldsList-from_slice c.args.requirements.now (cc)) (λ x b q k. search (rules, tests))
    ∙ sym (list_all-map (meets (view c.args.object.now)) requirement_seen c.args.requirements.now)
