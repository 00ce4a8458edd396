use Rattle.std.proofs.Common.{refl, sym, ◌∙◌, ◌≡◌, false}
use Rattle.std.specs.Prelude.{option_map}
use Rattle.snapshots.specs.ObjectCache.{has_zero}
use Rattle.snapshots.proofs.Holding.{are_of, alike, none_listed, still}
use Rattle.snapshots.proofs.object_cache.ObjectCache.list.Goals as goal

pub returns-then-has_zero-clause-found : goal.returns-then-has_zero-clause-found
returns-then-has_zero-clause-found g c objects caches =
    c.new.ensures.items
    ∙ sym (none_listed c.args.resource (option_map (λ text. text.now) c.args.namespace) (sym c.has_zero.ensures ∙ c.if-has_zero.true) objects caches.hold.storable)

pub returns-clause-found : goal.returns-clause-found
returns-clause-found g c objects caches =
    let text = option_map (λ text. text.now) c.args.namespace in
    let are = c.deref.ensures.value ∙ c.in_ok-prefix.ensures in
    let none : has_zero text ≡ false = sym c.has_zero.ensures ∙ c.if-has_zero.false in
    c.objects_with.ensures.found caches.entries _ caches.shelves
    (alike caches.entries objects caches.hold c.args.resource text none c.deref.result.now are)
    (are_of caches.entries objects caches.hold c.args.resource text c.deref.result.now are)

pub returns-clause-kept : goal.returns-clause-kept
returns-clause-kept g c objects caches =
    still g.D.Device.disk c.args.device.now c.objects_with.new.device c.args.self.now _ c.objects_with.ensures.entries c.objects_with.ensures.root objects (λ among. among) caches

pub returns-clause-damaged : goal.returns-clause-damaged
returns-clause-damaged g c objects caches is =
    let text = option_map (λ text. text.now) c.args.namespace in
    let are = c.deref.ensures.value ∙ c.in_ok-prefix.ensures in
    let none : has_zero text ≡ false = sym c.has_zero.ensures ∙ c.if-has_zero.false in
    c.objects_with.ensures.damaged caches.entries _ caches.shelves
    (alike caches.entries objects caches.hold c.args.resource text none c.deref.result.now are)
    (are_of caches.entries objects caches.hold c.args.resource text c.deref.result.now are)
    is

pub returns-in_err-prefix-clause-memory : goal.returns-in_err-prefix-clause-memory
returns-in_err-prefix-clause-memory g c is = refl

pub returns-clause-steady : goal.returns-clause-steady
returns-clause-steady g c = c.objects_with.ensures.steady

pub returns-clause-memory : goal.returns-clause-memory
returns-clause-memory g c = c.objects_with.ensures.memory
