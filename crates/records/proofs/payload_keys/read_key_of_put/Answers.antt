use Rattle.std.proofs.Common.{◌∙◌, sym, ◌++◌}
use Rattle.names.specs.Key.{key_bytes}
use Rattle.fields.specs.Field.{field}
use Rattle.fields.proofs.Fields.{same-fields}
use Rattle.records.proofs.Frames.{key-fits}
use Rattle.records.proofs.payload_keys.read_key_of_put.Goals as goal

pub returns-in-None-clause-damaged : goal.returns-in-None-clause-damaged
returns-in-None-clause-damaged c is_damaged k text plans rest is fits plans_fit same =
    let read = c.in_ok-key in
    let behind = same-fields 2 (key_bytes k) (key_bytes read.key) (field 4 text ++ (field 4 plans ++ rest)) read.rest.now (key-fits k is) (key-fits read.key read.ensures.form)
    (same ∙ sym read.ensures.field) in
    c.behind_texts.ensures.none c.in-None.is text plans rest fits plans_fit behind.1
