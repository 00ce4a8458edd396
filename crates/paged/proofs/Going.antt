-- What lies in pages goes where the objects there go.
use Rattle.std.specs.Prelude.{◌≡◌, false, List, Result, IsErrOf}
use Rattle.std.specs.Result.{IsErrAnd}
use Rattle.std.proofs.Common.{sym, subst}
use Rattle.device.specs.declared.device.Device.{Ghosts}
use Rattle.device.specs.Disk.{Disk, HasFailed}
use Rattle.device.specs.Run.{Ran}
use Rattle.device.specs.Step.{Same}
use Rattle.objects.specs.Failing.{HasGrown}
use Rattle.objects.specs.declared.fault.LookupFault.{LookupFault}
use Rattle.objects.specs.declared.fault.LookupFault.TheVariants.{Memory}
use Rattle.checkpoint.proofs.Faults.{err_is}
use Rattle.names.specs.Key.{Key}
use Rattle.histories.specs.declared.stored.Stored.{Stored}
use Rattle.snapshots.specs.declared.base.Base.{Base}
use Rattle.snapshots.specs.declared.object_cache.ObjectCache.{ObjectCache}
use Rattle.snapshots.specs.declared.cached_object.CachedObject.{CachedObject}
use Rattle.snapshots.specs.ObjectCache.{ObjectCaches, HasEntries}
use Rattle.pages.specs.Page.{Entry}
use Rattle.snapshots.specs.Base.{Lies, HoldsBase, GoesTo}
use Rattle.decoded.specs.Decoded.{Decoded}
use Rattle.paged.specs.declared.without_plans.WithoutPlans.{WithoutPlans}
use Rattle.paged.specs.Lying.{made_bare, held_bare, LiesBelow}

-- Where pages hold the objects that others held, the same objects lie below.
pub lies_with_objects : {D : Type 0} (disk : Disk D) (old new : D) (before after : ObjectCache) (base : List (Key × Stored Decoded))
    → ((objects : List (Key × CachedObject)) → ObjectCaches disk old before objects → ObjectCaches disk new after objects) → LiesBelow disk old before base → LiesBelow disk new after base
lies_with_objects disk old new before after base goes below = λ bare.
    let lies = below bare in record { all = lies.all; caches = goes lies.all lies.caches; are = lies.are }

module _ {D : Type 0} {g : Ghosts D} (start : Base D WithoutPlans g) (device : D) (cache : ObjectCache) (on : start.device.now ≡ device) (of : start.cache.now ≡ cache) (base : List (Key × Stored Decoded)) where
  -- Those are what a base holds of this cache, on this device, where no damage was found.
  pub holds_below : start.is_damaged ≡ false → LiesBelow g.disk device cache base → HoldsBase made_bare held_bare start base
  holds_below whole below =
      let On : D → Type 0 = λ d. Lies made_bare held_bare g.disk d start.cache.now start.making base in
      let Of : ObjectCache → Type 0 = λ s. Lies made_bare held_bare g.disk device s start.making base in
      record { whole = whole; lies = subst On (sym on) (subst Of (sym of) (below start.making)) }

  -- The pages hold the same entries for the base.
  pub has_entries : (entries : List Entry) → HasEntries g.disk device cache entries → HasEntries g.disk start.device.now start.cache.now entries
  has_entries entries has =
      let On : D → Type 0 = λ d. HasEntries g.disk d start.cache.now entries in
      let Of : ObjectCache → Type 0 = λ s. HasEntries g.disk device s entries in
      subst On (sym on) (subst Of (sym of) has)

  -- They lie below still where looks went.
  pub below_goes : (end : Base D WithoutPlans g) (now : D) → now ≡ end.device.now → GoesTo start end → LiesBelow g.disk device cache base → LiesBelow g.disk now end.cache.now base
  below_goes end now is goes below =
      lies_with_objects g.disk device now cache end.cache.now base
      (λ objects held.
      let On : D → Type 0 = λ d. ObjectCaches g.disk d start.cache.now objects in
      let Of : ObjectCache → Type 0 = λ s. ObjectCaches g.disk device s objects in
      let At : D → Type 0 = λ d. ObjectCaches g.disk d end.cache.now objects in
      subst At (sym is) (goes.caches objects (subst On (sym on) (subst Of (sym of) held)))) below

-- What a base did to its device is what was done to the device, from before the base was made.
module _ {D : Type 0} {g : Ghosts D} (start end : Base D WithoutPlans g) (old now : D) (from : start.device.now ≡ old) (to : end.device.now ≡ now) where
  pub ran_by : Ran g.disk old old Same → GoesTo start end → Ran g.disk old now Same
  ran_by idle goes =
      let To : D → Type 0 = λ d. Ran g.disk old d Same in
      subst To to (goes.ran old (subst To (sym from) idle))

  pub unfailed_by : g.disk.failures end.device.now ≡ g.disk.failures start.device.now → g.disk.failures now ≡ g.disk.failures old
  unfailed_by same =
      let From : D → Type 0 = λ d. g.disk.failures now ≡ g.disk.failures d in
      let To : D → Type 0 = λ d. g.disk.failures d ≡ g.disk.failures start.device.now in
      subst From from (subst To to same)

  pub failed_by : HasGrown (g.disk.failures start.device.now) (g.disk.failures end.device.now) → HasFailed g.disk old now
  failed_by grown =
      let From : D → Type 0 = λ d. HasFailed g.disk d now in
      let To : D → Type 0 = λ d. HasFailed g.disk start.device.now d in
      subst From from (subst To to grown)

-- when out of memory no other fault is told
pub no_want : {A P : Type 0} (r : Result A LookupFault) → IsErrAnd r (λ e. e ≡ Memory) → (fault : LookupFault) → (fault ≡ Memory → ⊥) → IsErrOf r fault → P
no_want r want fault other told = absurd (other (err_is r (λ e. e ≡ Memory) fault want told))
