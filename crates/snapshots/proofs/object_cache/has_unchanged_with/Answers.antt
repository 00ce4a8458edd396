use Rattle.std.proofs.Common.{rules, ap}
use Rattle.std.specs.Prelude.{IsErrOf}
use Rattle.roots.specs.declared.root.Root.{Root}
use Rattle.names.specs.Format.{has_chunks}
use Rattle.shelf.specs.declared.fault.ShelfFault.TheVariants as ShelfFault
use Rattle.chunks.specs.Whole.{cuts_of}
use Rattle.snapshots.proofs.Unchanged.{none_of_told, one_of_refused}
use Rattle.snapshots.proofs.object_cache.has_unchanged_with.Goals as goal

pub returns-in-Ok-clause-found : goal.returns-in-Ok-clause-found
returns-in-Ok-clause-found g c = λ entries objects wholes alike of.
    none_of_told (cuts_of c.args.shelf.now) c.args.prefix.now entries objects wholes.can alike of _ (ap (λ (r : Root). has_chunks r.label.format) c.root.ensures)
    c.tell.new.reader (c.in-Ok.ensures.told _ wholes.shelves)

pub returns-in-Err-Entry-clause-found : goal.returns-in-Err-Entry-clause-found
returns-in-Err-Entry-clause-found g c = λ entries objects wholes alike of.
    let refused : IsErrOf c.tell.result ShelfFault.Entry = search rules in
    one_of_refused (cuts_of c.args.shelf.now) c.args.prefix.now entries objects wholes.can alike of _ (ap (λ (r : Root). has_chunks r.label.format) c.root.ensures)
    (c.tell.ensures.refused _ wholes.shelves refused)
