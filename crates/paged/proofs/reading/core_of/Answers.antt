use Rattle.std.proofs.Common.{◌≡◌, ◌∙◌, sym, ◌-◌, length}
use Rattle.std.proofs.lemmas.Result.{IfOk-weaker}
use Rattle.names.specs.declared.resource.Resource.{Resource}
use Rattle.std.specs.Prelude.{not, Bool}
use Rattle.paged.specs.Lying.{is_rule, base_of}
use Rattle.paged.specs.Chosen.{rules_among}
use Rattle.paged.proofs.Choosing.{are_chosen, count_is}
use Rattle.paged.proofs.Pages.{restored_of_none, held_of_restored}
use Rattle.paged.proofs.reading.core_of.Goals as goal

pub returns-clause-shows : goal.returns-clause-shows
returns-clause-shows c held chosen is all same objects revision =
    let count : length (base_of held) ≡ c.count_below-count.result =
    sym (c.count_below-count.ensures ∙ (λ i. objects i - rules_among (same i)) ∙ count_is chosen all held)
    in
    c.restored.ensures.shows held chosen is (are_chosen chosen all held) same revision count

pub returns-clause-damaged : goal.returns-clause-damaged
returns-clause-damaged c is_damaged held chosen is all same objects revision =
    let count : length (base_of held) ≡ c.count_below-count.result =
    sym (c.count_below-count.ensures ∙ (λ i. objects i - rules_among (same i)) ∙ count_is chosen all held)
    in
    c.restored.ensures.damaged is_damaged held chosen is (are_chosen chosen all held) same revision count

pub returns-clause-none : goal.returns-clause-none
returns-clause-none c empty uncounted =
    let lies : Resource → Bool = λ r. not (is_rule r) in
    let none : c.count_below-count.result ≡ 0 = c.count_below-count.ensures ∙ (λ i. uncounted i - rules_among (empty i)) in
    IfOk-weaker c.restored.result _ _
    (λ core is. restored_of_none c.args.rules lies c.args.kept.now c.count_below-count.result c.args.revision core empty none is) c.restored.ensures.restored

pub returns-clause-kept : goal.returns-clause-kept
returns-clause-kept c = held_of_restored c.args.rules (λ r. not (is_rule r)) c.args.kept.now c.count_below-count.result c.args.revision c.restored.result c.restored.ensures.restored
