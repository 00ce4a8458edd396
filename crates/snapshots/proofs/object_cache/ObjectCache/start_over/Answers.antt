use Rattle.std.proofs.Common.{sym, subst}
use Rattle.shelf.specs.declared.shelf.Shelf.{Shelf}
use Rattle.shelf.specs.Shelf.{Shelves}
use Rattle.snapshots.proofs.object_cache.ObjectCache.start_over.Goals as goal

pub returns-clause-shelves : goal.returns-clause-shelves
returns-clause-shelves g c entries index keeps holds =
    let At : Shelf → Type 0 = λ s. Shelves g.D.Device.disk c.args.device.now s entries in
    subst At (sym c.forget.ensures.shelf) (c.start_over.ensures.shelves entries index keeps holds)
