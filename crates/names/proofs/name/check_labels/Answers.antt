use borrow.Author.Tests.{tests}
use Rattle.std.proofs.Common.{rules, ◌==◌}
use Rattle.std.proofs.lemmas.Iterator.Search.{all_from_yields_List}
use Rattle.std.proofs.lemmas.Iterator.Splits.{YieldsList-from_slice_split}
use Rattle.names.specs.Name.{is_label, dot}
use Rattle.names.proofs.name.check_labels.Goals as goal

pub returns : goal.returns
returns c =
    all_from_yields_List is_label _ _ _ c.all.ensures.ran
    (YieldsList-from_slice_split _ (λ byte. byte == dot) _ c.split.ensures.rest c.split.ensures.done c.split.ensures.closure (λ x b q k. search (rules, tests)))
    (λ x b q k. search (rules, tests))
