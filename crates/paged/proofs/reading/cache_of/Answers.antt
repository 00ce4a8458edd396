use Rattle.std.proofs.Common.{sym, subst}
use Rattle.shelf.specs.declared.shelf.Shelf.{Shelf}
use Rattle.shelf.specs.Shelf.{Shelves}
use Rattle.paged.proofs.reading.cache_of.Goals as goal

pub returns-clause-shelves : goal.returns-clause-shelves
returns-clause-shelves g c entries index keeps holds =
    let At : Shelf → Type 0 = λ s. Shelves g.D.Device.disk c.args.device.now s entries in
    subst At (sym c.new-2.ensures.shelf) (c.in_ok-shelf.ensures.shelves entries index keeps holds)
