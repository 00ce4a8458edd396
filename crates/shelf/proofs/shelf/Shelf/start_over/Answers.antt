use Rattle.std.proofs.Common.{ap}
use Rattle.shelf.proofs.Holding.{shelves_unread}
use Rattle.shelf.proofs.shelf.Shelf.start_over.Goals as goal

pub returns-clause-shelves : goal.returns-clause-shelves
returns-clause-shelves g c entries index keeps holds =
    shelves_unread g.D.Device.disk c.args.device.now _ entries (ap (λ cache. cache.entries) c.clear.ensures) index keeps holds
