use Rattle.std.proofs.Common.{rules, ◌≡◌, ◌∙◌, ap, ◌∷◌, ◌++◌}
use Rattle.std.specs.Prelude.{Err}
use Rattle.byteorder.specs.Endian.{big_bytes}
use Rattle.jsondoc.specs.Json.{text}
use Rattle.names.specs.Key.{key_bytes}
use Rattle.pages.specs.Page.{Entry}
use Rattle.records.specs.declared.fault.RecordFault.TheVariants as RecordFault
use Rattle.records.proofs.EntryParts.{same_numbered}
use Rattle.records.proofs.object.read_object.Goals as goal

pub returns-in_err-manifest-clause-damaged : goal.returns-in_err-manifest-clause-damaged
returns-in_err-manifest-clause-damaged c is_damaged k d n form same =
    let revision = c.in-Some-split_number.revision in
    let found = c.in-Some-split_number.text.now in
    let keys : 1 ∷ key_bytes k ≡ 1 ∷ c.in-Some.key.now = ap (λ (e : Entry). e.0) same ∙ c.in-Some.ensures.parts in
    let bytes : key_bytes k ≡ c.in-Some.key.now = cc in
    let cells : big_bytes 8 n ++ text d.json ≡ big_bytes 8 revision ++ found = ap (λ (e : Entry). e.1) same ∙ c.in-Some-split_number.ensures.parts in
    let bad : c.read_manifest.result ≡ Err RecordFault.Damaged = search rules in
    c.read_manifest.ensures.damaged bad k d form.0 bytes (same_numbered n revision (text d.json) found form.1 c.in-Some-split_number.ensures.size cells).1
