use Rattle.std.proofs.Common.{rules, refl, sym, ◌≡◌, ◌∙◌, ap, Err}
use Rattle.device.specs.Step.{Same}
use Rattle.device.proofs.Runs.{ran_then}
use Rattle.names.specs.Format.{has_chunks}
use Rattle.chunks.specs.Whole.{first_key}
use Rattle.snapshots.specs.ObjectCacheFaults.{of_shelf_fault}
use Rattle.snapshots.specs.declared.object_cache_fault.ObjectCacheFault.TheVariants as ObjectCacheFault
use Rattle.snapshots.proofs.BaseFaults.{memory_is}
use Rattle.snapshots.proofs.Holding.{still}
use Rattle.snapshots.proofs.Lookups.{inside_still}
use Rattle.snapshots.proofs.object_cache.ObjectCache.find.Goals as goal

pub returns-in_err-place-clause-kept : goal.returns-in_err-place-clause-kept
returns-in_err-place-clause-kept g c objects caches =
    still g.D.Device.disk c.args.device.now c.bring.new.device c.args.self.now _ c.bring.ensures.kept c.bring.ensures.root objects (λ among. among) caches

pub returns-clause-found : goal.returns-clause-found
returns-clause-found g c objects caches =
    c.read.ensures.found objects (still g.D.Device.disk c.args.device.now c.bring.new.device c.args.self.now _ c.bring.ensures.kept c.bring.ensures.root objects (λ among. among) caches)

pub returns-clause-kept : goal.returns-clause-kept
returns-clause-kept g c objects caches =
    c.read.ensures.kept objects (still g.D.Device.disk c.args.device.now c.bring.new.device c.args.self.now _ c.bring.ensures.kept c.bring.ensures.root objects (λ among. among) caches)

pub returns-clause-damaged : goal.returns-clause-damaged
returns-clause-damaged g c objects caches is =
    c.read.ensures.damaged objects (still g.D.Device.disk c.args.device.now c.bring.new.device c.args.self.now _ c.bring.ensures.kept c.bring.ensures.root objects (λ among. among) caches) is

pub returns-clause-ran : goal.returns-clause-ran
returns-clause-ran g c =
    ran_then g.D.Device.disk c.args.device.now c.bring.new.device c.read.new.device Same Same Same c.bring.ensures.ran c.read.ensures.ran (λ x y is. is) (λ x y z p q. q ∙ p)

pub read-requires-clause-first : goal.read-requires-clause-first
read-requires-clause-first g c =
    c.deref-3.ensures.value ∙ c.in_ok-first.ensures
    ∙ (λ i. first_key (has_chunks ((c.root.ensures ∙ sym c.bring.ensures.root) i).label.format) ((c.deref.ensures.value ∙ sym c.deref-4.ensures.value) i))

pub read-requires-clause-inside : goal.read-requires-clause-inside
read-requires-clause-inside g c =
    inside_still g.D.Device.disk c.args.device.now c.bring.new.device _ _ c.bring.ensures.root c.bring.ensures.ran c.requires.inside

pub returns-in_err-bytes-clause-memory : goal.returns-in_err-bytes-clause-memory
returns-in_err-bytes-clause-memory g c is = refl

pub returns-in_err-first-clause-memory : goal.returns-in_err-first-clause-memory
returns-in_err-first-clause-memory g c is = refl

pub returns-in_err-place-clause-memory : goal.returns-in_err-place-clause-memory
returns-in_err-place-clause-memory g c is =
    let told : of_shelf_fault c.in_err-place.field-0.0 ≡ ObjectCacheFault.Memory = search rules in
    c.bring.ensures.unfailed (c.in_err-place.was ∙ ap (λ fault. Err fault) (memory_is c.in_err-place.field-0.0 told))

pub returns-clause-memory : goal.returns-clause-memory
returns-clause-memory g c is = c.read.ensures.memory is ∙ c.in_ok-place.ensures.steady
