use Rattle.snapshots.proofs.Holding.{are_all, all_alike, still}
use Rattle.snapshots.proofs.object_cache.ObjectCache.all_cells.Goals as goal

pub returns-clause-found : goal.returns-clause-found
returns-clause-found g c objects caches =
    c.cells_with.ensures.found caches.entries objects caches.shelves (all_alike caches.entries objects caches.hold) (are_all caches.entries objects caches.hold)

pub returns-clause-kept : goal.returns-clause-kept
returns-clause-kept g c objects caches =
    still g.D.Device.disk c.args.device.now c.cells_with.new.device c.args.self.now _ c.cells_with.ensures.entries c.cells_with.ensures.root objects (λ among. among) caches

pub returns-clause-damaged : goal.returns-clause-damaged
returns-clause-damaged g c objects caches is =
    c.cells_with.ensures.damaged caches.entries objects caches.shelves (all_alike caches.entries objects caches.hold) (are_all caches.entries objects caches.hold) is

pub returns-clause-steady : goal.returns-clause-steady
returns-clause-steady g c = c.cells_with.ensures.steady

pub returns-clause-memory : goal.returns-clause-memory
returns-clause-memory g c = c.cells_with.ensures.memory

pub returns-clause-are : goal.returns-clause-are
returns-clause-are g c = c.cells_with.ensures.are
