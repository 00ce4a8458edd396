-- Objects in pages, as what lies below.
use Rattle.std.specs.Prelude.{◌≡◌, Bool, true, false, not, List, map}
use Rattle.std.proofs.Common.{refl, sym, ◌∙◌}
use Rattle.std.specs.List.{filter}
use Rattle.device.specs.declared.device.Device.{Ghosts}
use Rattle.device.specs.Disk.{Disk}
use Rattle.device.specs.Step.{Same}
use Rattle.device.specs.Run.{Ran}
use Rattle.names.specs.declared.resource.Resource.{Resource}
use Rattle.names.specs.Key.{Key}
use Rattle.documents.specs.Document.{Document}
use Rattle.histories.specs.declared.stored.Stored.{Stored}
use Rattle.snapshots.specs.declared.cached_object.CachedObject.{CachedObject}
use Rattle.snapshots.specs.declared.object_cache.ObjectCache.{ObjectCache}
use Rattle.snapshots.specs.ObjectCache.{root_of, ObjectCaches}
use Rattle.snapshots.specs.Whole.{whole}
use Rattle.snapshots.specs.declared.base.Base.{Base}

-- The objects that are not held in memory.
abbrev pub not_held : (held : Resource → Bool) → List (Key × CachedObject) → List (Key × CachedObject)
not_held held objects = filter (λ o. not (held o.0.resource)) objects

-- These objects lie below: they are those of the pages that are not held in memory, with what is made of each document beside it.
pub record Lies {D M P : Type 0} (made : M → Document → P) (held : M → Resource → Bool) (disk : Disk D) (device : D) (cache : ObjectCache) (making : M) (objects : List (Key × Stored P)) : Type 0 where
  pub all : List (Key × CachedObject)
  pub caches : ObjectCaches disk device cache all
  pub are : objects ≡ map (whole (made making)) (not_held (held making) all)

-- No damage was found, and these objects lie below.
pub record HoldsBase {D M P : Type 0} {g : Ghosts D} (made : M → Document → P) (held : M → Resource → Bool) (base : Base D M g) (objects : List (Key × Stored P)) : Type 0 where
  pub whole : base.is_damaged ≡ false
  pub lies : Lies made held g.disk base.device.now base.cache.now base.making objects

module _ {D M : Type 0} {g : Ghosts D} where
  -- It is the same device and the same cache, whose pages are of the same root and hold the same objects, and a run of calls which changed nothing on the
  -- device has changed nothing still.
  pub record GoesTo (old new : Base D M g) : Type 0 where
    pub same_device : new.device.ghost_name ≡ old.device.ghost_name
    pub same_cache : new.cache.ghost_name ≡ old.cache.ghost_name
    pub making : new.making ≡ old.making
    pub root : root_of new.cache.now ≡ root_of old.cache.now
    pub caches : (objects : List (Key × CachedObject)) → ObjectCaches g.disk old.device.now old.cache.now objects → ObjectCaches g.disk new.device.now new.cache.now objects
    pub ran : (first : D) → Ran g.disk first old.device.now Same → Ran g.disk first new.device.now Same

  pub stays : (base : Base D M g) → GoesTo base base
  stays base = record { same_device = refl; same_cache = refl; making = refl; root = refl; caches = λ _ held. held; ran = λ _ ran. ran }

  pub goes_on : (before between after : Base D M g) → GoesTo before between → GoesTo between after → GoesTo before after
  goes_on before between after first second = record {
    same_device = second.same_device ∙ first.same_device;
    same_cache = second.same_cache ∙ first.same_cache;
    making = second.making ∙ first.making;
    root = second.root ∙ first.root;
    caches = λ objects held. second.caches objects (first.caches objects held);
    ran = λ start ran. second.ran start (first.ran start ran);
  }

  -- The device has not failed since.
  abbrev pub IsUnfailed : (old new : Base D M g) → Type 0
  IsUnfailed old new = g.disk.failures new.device.now ≡ g.disk.failures old.device.now

  pub unfailed_itself : (base : Base D M g) → IsUnfailed base base
  unfailed_itself base = refl

  pub unfailed_on : (before between after : Base D M g) → IsUnfailed before between → IsUnfailed between after → IsUnfailed before after
  unfailed_on before between after first second = second ∙ first

  pub holds_nothing : {P : Type 0} (made : M → Document → P) (held : M → Resource → Bool) (base : Base D M g) (objects : List (Key × Stored P))
      → HoldsBase made held base objects → base.is_damaged ≡ true → ⊥
  holds_nothing made held base objects holds damaged =
      let never : false ≡ true = sym holds.whole ∙ damaged in cc
