use Rattle.std.proofs.Common.{rules, ◌≡◌, ◌∙◌, ap, refl, Err}
use Rattle.checkpoint.specs.declared.reader.ReaderFault.TheVariants as ReaderFault
use Rattle.names.specs.Format.{has_chunks}
use Rattle.chunks.specs.Whole.{cuts_of}
use Rattle.shelf.specs.Faults.{of_reader_fault}
use Rattle.shelf.specs.Prefix.{beginning}
use Rattle.shelf.specs.declared.fault.ShelfFault.TheVariants as ShelfFault
use Rattle.chunks.proofs.Joined.{heard_by, none_taken_by, last_refused_by}
use Rattle.chunks.proofs.reading.tell_whole.Goals as goal

an_entry : (f : ReaderFault.the_data) → ShelfFault.Entry ≡ of_reader_fault f → f ≡ ReaderFault.Entry
an_entry ReaderFault.Entry is = refl
an_entry ReaderFault.Memory is = cc

pub returns-in_err-tell-clause-refused : goal.returns-in_err-tell-clause-refused
returns-in_err-tell-clause-refused g c entries shelves is =
    let told : c.in_err-tell.field-0.0 ≡ ShelfFault.Entry = search rules in
    let R = g.R.Reader in
    none_taken_by R.told g.met.R.Reader.told_then c.new-joining.result c.new-joining.ensures.none R.refuses (cuts_of c.args.shelf.now) c.args.reader
    (c.new-joining.ensures.cutting ∙ c.has_chunks.ensures ∙ ap (λ root. has_chunks root.label.format) c.root.ensures) c.new-joining.ensures.reader
    (beginning c.args.prefix.now entries)
    (c.tell.ensures.refused entries shelves (c.in_err-tell.was ∙ ap Err told))

pub returns-in_err-finish-clause-refused : goal.returns-in_err-finish-clause-refused
returns-in_err-finish-clause-refused g c entries shelves is =
    let told : ShelfFault.Entry ≡ of_reader_fault c.in_err-finish.field-0.0 = search rules in
    let R = g.R.Reader in
    last_refused_by R.told g.met.R.Reader.told_then c.new-joining.result c.new-joining.ensures.none R.refuses (cuts_of c.args.shelf.now) c.args.reader
    (c.new-joining.ensures.cutting ∙ c.has_chunks.ensures ∙ ap (λ root. has_chunks root.label.format) c.root.ensures) c.new-joining.ensures.reader
    (beginning c.args.prefix.now entries)
    c.tell.new.reader (c.in_ok-tell.ensures.told entries shelves) (c.finish.ensures.refused (c.in_err-finish.was ∙ ap Err (an_entry c.in_err-finish.field-0.0 told)))

pub returns-clause-told : goal.returns-clause-told
returns-clause-told g c entries shelves =
    let R = g.R.Reader in
    heard_by R.told g.met.R.Reader.told_then c.new-joining.result c.new-joining.ensures.none (cuts_of c.args.shelf.now) c.args.reader
    (c.new-joining.ensures.cutting ∙ c.has_chunks.ensures ∙ ap (λ root. has_chunks root.label.format) c.root.ensures) c.new-joining.ensures.reader
    c.tell.new.reader c.in_ok-finish.field-0 (beginning c.args.prefix.now entries)
    (c.in_ok-tell.ensures.told entries shelves) c.in_ok-finish.ensures.told
