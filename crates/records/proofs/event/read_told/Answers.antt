use Rattle.std.proofs.Common.{rules, ◌≡◌, ◌∙◌, sym}
use Rattle.std.specs.Prelude.{Err}
use Rattle.fields.proofs.Fields.{same-fields}
use Rattle.jsondoc.specs.Json.{text}
use Rattle.names.specs.Key.{key_bytes}
use Rattle.records.specs.declared.fault.RecordFault.TheVariants as RecordFault
use Rattle.records.proofs.Frames.{key-fits}
use Rattle.records.proofs.event.read_told.Goals as goal

pub returns-in_default-clause-damaged : goal.returns-in_default-clause-damaged
returns-in_default-clause-damaged c is_damaged k d form same = c.short_field.ensures.none c.in_default.is (key_bytes k) (text d.json) (key-fits k form.key) (sym same)

pub returns-in_err-manifest-clause-damaged : goal.returns-in_err-manifest-clause-damaged
returns-in_err-manifest-clause-damaged c is_damaged k d form same =
    let parts = same-fields 2 (key_bytes k) c.in-Some.key.now (text d.json) c.in-Some.text.now (key-fits k form.key) c.in-Some.ensures.size (same ∙ c.in-Some.ensures.parts) in
    let bad : c.read_manifest.result ≡ Err RecordFault.Damaged = search rules in
    c.read_manifest.ensures.damaged bad k d form parts.0 parts.1
