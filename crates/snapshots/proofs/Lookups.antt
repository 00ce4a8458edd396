-- A look leaves what lies below.
use Rattle.std.specs.Prelude.{◌≡◌, ◌≤◌, ◌*◌, ℕ, Bool, List, map, length}
use Rattle.std.proofs.Common.{sym, ◌∙◌, subst}
use Rattle.device.specs.declared.device.Device.{Ghosts}
use Rattle.device.specs.Disk.{Disk}
use Rattle.device.specs.Step.{Same}
use Rattle.device.specs.Run.{Ran}
use Rattle.device.proofs.Runs.{ran_then}
use Rattle.names.specs.declared.resource.Resource.{Resource}
use Rattle.names.specs.Key.{Key}
use Rattle.documents.specs.Document.{Document}
use Rattle.histories.specs.declared.stored.Stored.{Stored}
use Rattle.roots.specs.declared.root.Root.{Root}
use Rattle.roots.specs.Root.{log_sector}
use Rattle.snapshots.specs.declared.cached_object.CachedObject.{CachedObject}
use Rattle.snapshots.specs.declared.object_cache.ObjectCache.{ObjectCache}
use Rattle.snapshots.specs.ObjectCache.{root_of, ObjectCaches}
use Rattle.snapshots.specs.Whole.{whole}
use Rattle.snapshots.specs.declared.base.Base.{Base}
use Rattle.snapshots.specs.Base.{not_held, HoldsBase, GoesTo}

-- the pages lie inside still
pub inside_still : {D : Type 0} (disk : Disk D) (before after : D) (old new : Root) → new ≡ old → Ran disk before after Same
    → (disk.keeps before → 512 * log_sector old ≤ length (disk.content before)) → disk.keeps after → 512 * log_sector new ≤ length (disk.content after)
inside_still disk before after old new root ran inside keeps =
    let kept = ran.had_kept keeps in
    let Of : Root → Type 0 = λ r. 512 * log_sector r ≤ length (disk.content after) in
    let Inside : List ℕ → Type 0 = λ content. 512 * log_sector old ≤ length content in
    subst Of (sym root) (subst Inside (sym (ran.seen kept)) (inside kept))

module _ {D M : Type 0} {g : Ghosts D} where
  -- what the pages hold stays
  pub held_still : {P : Type 0} (made : M → Document → P) (held : M → Resource → Bool) (old new : Base D M g) (device : D) (cache : ObjectCache) (objects : List (Key × Stored P))
      → new.making ≡ old.making → new.is_damaged ≡ old.is_damaged → new.device.now ≡ device → new.cache.now ≡ cache
      → ((os : List (Key × CachedObject)) → ObjectCaches g.disk old.device.now old.cache.now os → ObjectCaches g.disk device cache os)
      → HoldsBase made held old objects → HoldsBase made held new objects
  held_still made held old new device cache objects making undamaged device_is cache_is caches holds =
      let all : List (Key × CachedObject) = holds.lies.all in
      let On : D → Type 0 = λ d. ObjectCaches g.disk d new.cache.now all in
      let Of : ObjectCache → Type 0 = λ s. ObjectCaches g.disk device s all in
      let Are : M → Type 0 = λ m. objects ≡ map (whole (made m)) (not_held (held m) all) in
      record {
        whole = undamaged ∙ holds.whole;
        lies = record {
          all = all;
          caches = subst On (sym device_is) (subst Of (sym cache_is) (caches all holds.lies.caches));
          are = subst Are (sym making) holds.lies.are;
        };
      }

  -- one run of calls more which changes nothing
  pub goes : (old new : Base D M g) (device : D) (cache : ObjectCache)
      → new.device.ghost_name ≡ old.device.ghost_name → new.cache.ghost_name ≡ old.cache.ghost_name → new.making ≡ old.making
      → new.device.now ≡ device → new.cache.now ≡ cache → root_of cache ≡ root_of old.cache.now
      → ((os : List (Key × CachedObject)) → ObjectCaches g.disk old.device.now old.cache.now os → ObjectCaches g.disk device cache os) → Ran g.disk old.device.now device Same → GoesTo old new
  goes old new device cache same_device same_cache making device_is cache_is root caches ran =
      let Root_is : ObjectCache → Type 0 = λ s. root_of s ≡ root_of old.cache.now in
      let On : List (Key × CachedObject) → D → Type 0 = λ os d. ObjectCaches g.disk d new.cache.now os in
      let Of : List (Key × CachedObject) → ObjectCache → Type 0 = λ os s. ObjectCaches g.disk device s os in
      let To : D → Type 0 = λ d. Ran g.disk old.device.now d Same in
      record {
        same_device = same_device;
        same_cache = same_cache;
        making = making;
        root = subst Root_is (sym cache_is) root;
        caches = λ os held. subst (On os) (sym device_is) (subst (Of os) (sym cache_is) (caches os held));
        ran = λ first before.
            ran_then g.disk first old.device.now new.device.now Same Same Same before (subst To (sym device_is) ran) (λ _ _ same. same) (λ _ _ _ one two. two ∙ one);
      }
