use Rattle.std.proofs.Common.{sym, ap, ◌++◌}
use Rattle.fields.specs.Field.{field}
use Rattle.jsondoc.specs.Json.{text}
use Rattle.names.specs.Key.{key_bytes}
use Rattle.pages.specs.Page.{Entry}
use Rattle.records.proofs.event.read_event.Goals as goal

pub returns-in_default-split_change-clause-damaged : goal.returns-in_default-split_change-clause-damaged
returns-in_default-split_change-clause-damaged c is_damaged e form same =
    c.split_change.ensures.none c.in_default-split_change.is e.change (field 2 (key_bytes e.key) ++ text e.document.json) (sym (ap (λ (x : Entry). x.1) same))
