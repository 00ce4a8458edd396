use Rattle.std.proofs.Common.{◌≡◌, ◌∙◌, sym, Some, false}
use Rattle.snapshots.specs.ObjectCache.{has_zero}
use Rattle.snapshots.proofs.Holding.{are_of, alike, none_listed, still}
use Rattle.snapshots.proofs.Unchanged.{found_of, none_found}
use Rattle.snapshots.proofs.object_cache.ObjectCache.has_unchanged.Goals as goal

pub returns-then-has_zero-clause-found : goal.returns-then-has_zero-clause-found
returns-then-has_zero-clause-found g c objects caches =
    none_found c.args.resource c.args.namespace.now c.args.changes.now.made objects
    (none_listed c.args.resource (Some c.args.namespace.now) (sym c.has_zero.ensures ∙ c.if-has_zero.true) objects caches.hold.storable)

pub returns-clause-found : goal.returns-clause-found
returns-clause-found g c objects caches =
    let are = c.deref.ensures.value ∙ c.in_ok-prefix.ensures in
    let none : has_zero (Some c.args.namespace.now) ≡ false = sym c.has_zero.ensures ∙ c.if-has_zero.false in
    found_of c.has_unchanged_with.result c.args.resource c.args.namespace.now c.args.changes.now.made objects
    (c.has_unchanged_with.ensures.found caches.entries _ caches.shelves
    (alike caches.entries objects caches.hold c.args.resource (Some c.args.namespace.now) none c.deref.result.now are)
    (are_of caches.entries objects caches.hold c.args.resource (Some c.args.namespace.now) c.deref.result.now are))

pub returns-clause-kept : goal.returns-clause-kept
returns-clause-kept g c objects caches =
    still g.D.Device.disk c.args.device.now c.has_unchanged_with.new.device c.args.self.now _ c.has_unchanged_with.ensures.entries c.has_unchanged_with.ensures.root objects (λ among. among) caches
