use Rattle.std.proofs.Common.{◌∙◌, sym, ◌++◌}
use Rattle.fields.specs.Field.{field}
use Rattle.fields.proofs.Fields.{same-fields}
use Rattle.records.proofs.payload_keys.behind_texts.Goals as goal

pub returns-in_err-_plans-clause-none : goal.returns-in_err-_plans-clause-none
returns-in_err-_plans-clause-none c none text plans rest fits plans_fit same =
    let behind = same-fields 4 text c.in_ok-_text._text.now (field 4 plans ++ rest) c.in_ok-_text.rest.now fits c.in_ok-_text.ensures.size (same ∙ c.in_ok-_text.ensures.parts) in
    c.long_field-2.ensures.none c.in_err-_plans.was plans rest plans_fit (sym behind.1)
