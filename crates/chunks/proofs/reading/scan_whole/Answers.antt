use Rattle.std.proofs.Common.{rules, ◌≡◌, ◌∙◌, ap, Err}
use Rattle.names.specs.Format.{has_chunks}
use Rattle.checkpoint.specs.Pages.{joined, pages_of_root}
use Rattle.checkpoint.specs.declared.scanning.ScanFault.TheVariants as ScanFault
use Rattle.chunks.proofs.Joined.{heard_by, none_taken_by, last_refused_by}
use Rattle.chunks.proofs.reading.scan_whole.Goals as goal

pub returns-in_err-first_keys-clause-refused : goal.returns-in_err-first_keys-clause-refused
returns-in_err-first_keys-clause-refused g c keeps is =
    let told : c.in_err-first_keys.field-0.0 ≡ ScanFault.Entry = search rules in
    let R = g.R.Reader in
    none_taken_by R.told g.met.R.Reader.told_then c.new-joining.result c.new-joining.ensures.none R.refuses (has_chunks c.args.root.now.label.format) c.args.reader
    (c.new-joining.ensures.cutting ∙ c.has_chunks.ensures) c.new-joining.ensures.reader
    (joined (pages_of_root c.args.root.now (g.D.Device.disk.content c.args.device.now)))
    (c.scan.ensures.refused keeps (c.in_err-first_keys.was ∙ ap Err told))

pub returns-in-Ok-clause-told : goal.returns-in-Ok-clause-told
returns-in-Ok-clause-told g c keeps =
    let R = g.R.Reader in
    heard_by R.told g.met.R.Reader.told_then c.new-joining.result c.new-joining.ensures.none (has_chunks c.args.root.now.label.format) c.args.reader
    (c.new-joining.ensures.cutting ∙ c.has_chunks.ensures) c.new-joining.ensures.reader
    c.scan.new.reader c.in-Ok.reader (joined (pages_of_root c.args.root.now (g.D.Device.disk.content c.args.device.now)))
    (c.in_ok-first_keys.ensures.told keeps) c.in-Ok.ensures.told

pub returns-in-Err-Entry-clause-refused : goal.returns-in-Err-Entry-clause-refused
returns-in-Err-Entry-clause-refused g c keeps is =
    let R = g.R.Reader in
    last_refused_by R.told g.met.R.Reader.told_then c.new-joining.result c.new-joining.ensures.none R.refuses (has_chunks c.args.root.now.label.format) c.args.reader
    (c.new-joining.ensures.cutting ∙ c.has_chunks.ensures) c.new-joining.ensures.reader
    (joined (pages_of_root c.args.root.now (g.D.Device.disk.content c.args.device.now)))
    c.scan.new.reader (c.in_ok-first_keys.ensures.told keeps) (c.finish.ensures.refused (c.in-Err-Entry.is ∙ ap Err c.in-Err-Entry.field-0-is))
