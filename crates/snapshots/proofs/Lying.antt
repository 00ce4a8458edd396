-- What is known of the objects that lie below.
use Rattle.std.specs.Prelude.{◌≡◌, ◌<◌, Bool, true, not, List, [], ◌∷◌, map, None, IsTrue}
use Rattle.std.proofs.Common.{refl, sym, ap, ◌∙◌, ◌&&◌}
use Rattle.std.specs.FinMap.{is_sorted}
use Rattle.std.specs.FinMap.Entries.{below_all, is_sorted-where_key}
use Rattle.std.specs.List.{filter}
use Rattle.std.specs.Ordering.{is_lt}
use Rattle.device.specs.Disk.{Disk}
use Rattle.device.specs.Run.{Ran}
use Rattle.device.specs.Step.{Same}
use Rattle.names.specs.declared.resource.Resource.{Resource}
use Rattle.names.specs.Key.{Key, key_cmp}
use Rattle.documents.specs.Document.{Document}
use Rattle.objects.specs.Objects.{value_at}
use Rattle.objects.specs.Covered.{AreCovered}
use Rattle.objects.proofs.Changing.{T_from_true, true_from_T}
use Rattle.histories.specs.declared.stored.Stored.{Stored}
use Rattle.shelf.proofs.Staying.{HoldsAsBefore}
use Rattle.snapshots.specs.declared.cached_object.CachedObject.{CachedObject}
use Rattle.snapshots.specs.declared.object_cache.ObjectCache.{ObjectCache}
use Rattle.snapshots.specs.ObjectCache.{plain, root_of, ObjectCaches}
use Rattle.snapshots.proofs.Holding.{caches_stay, caches_ran}
use Rattle.snapshots.specs.Whole.{whole}
use Rattle.snapshots.specs.Base.{not_held, Lies}
use Rattle.snapshots.proofs.Objects.{resource_is, none_lies, AreMade, whole_again}

module _ {P : Type 0} (made : Document → P) where
  whole_below : (k : Key) (os : List (Key × CachedObject)) → below_all key_cmp k (map (whole made) os) ≡ below_all key_cmp k os
  whole_below k [] = refl
  whole_below k (o ∷ os) = ap (λ (b : Bool). is_lt (key_cmp k o.0) && b) (whole_below k os)

  whole_sorted : (os : List (Key × CachedObject)) → is_sorted key_cmp (map (whole made) os) ≡ is_sorted key_cmp os
  whole_sorted [] = refl
  whole_sorted (o ∷ os) = λ i. whole_below o.0 os i && whole_sorted os i

not_held_sorted : (held : Resource → Bool) (os : List (Key × CachedObject)) → IsTrue (is_sorted key_cmp os) → IsTrue (is_sorted key_cmp (not_held held os))
not_held_sorted held os h = true_from_T _ (is_sorted-where_key key_cmp (λ k. not (held k.resource)) os (T_from_true _ h))

module _ {D M P : Type 0} (made : M → Document → P) (held : M → Resource → Bool) (disk : Disk D) where
  -- Of a resource that is held in memory nothing lies below, so that no change has to cover it.
  pub lies_hide : (device : D) (cache : ObjectCache) (making : M) (objects : List (Key × Stored P)) (r : Resource) → Lies made held disk device cache making objects
      → held making r ≡ true → AreCovered r [] objects
  lies_hide device cache making objects r lies hidden = λ key of none.
      ap (λ (os : List (Key × Stored P)). value_at key os) lies.are
      ∙ none_lies (made making) (held making) key lies.all (ap (held making) (resource_is r None key of) ∙ hidden)

  -- What lies below stays where the device holds, up to the start of the log, what it held. Where there are no pages nothing is asked of it.
  pub lies_stay : (cache : ObjectCache) (making : M) (old new : D) (objects : List (Key × Stored P)) → (0 < (root_of cache).pages → HoldsAsBefore disk cache.shelf old new)
      → Lies made held disk old cache making objects → Lies made held disk new cache making objects
  lies_stay cache making old new objects as_before lies =
      record { all = lies.all; caches = caches_stay disk cache old new lies.all as_before lies.caches; are = lies.are }

  -- So it does where the device was read, and nothing was written.
  pub lies_ran : (cache : ObjectCache) (making : M) (old new : D) (objects : List (Key × Stored P)) → Ran disk old new Same
      → Lies made held disk old cache making objects → Lies made held disk new cache making objects
  lies_ran cache making old new objects ran lies =
      record { all = lies.all; caches = caches_ran disk cache old new lies.all ran lies.caches; are = lies.are }

  -- The keys of what lies below ascend.
  pub lies_ascend : (device : D) (cache : ObjectCache) (making : M) (objects : List (Key × Stored P)) → Lies made held disk device cache making objects → IsTrue (is_sorted key_cmp objects)
  lies_ascend device cache making objects lies =
      ap (λ (os : List (Key × Stored P)). is_sorted key_cmp os) lies.are
      ∙ whole_sorted (made making) (not_held (held making) lies.all)
      ∙ not_held_sorted (held making) lies.all lies.caches.hold.ascend

  -- Of objects that the pages hold, those lie below that are not held, if beside each of these stands what is made of its document.
  pub lies_of : (device : D) (cache : ObjectCache) (making : M) (objects : List (Key × Stored P)) → ObjectCaches disk device cache (map plain objects)
      → AreMade (made making) (λ k. not (held making k.resource)) objects
      → Lies made held disk device cache making (filter (λ o. not (held making o.0.resource)) objects)
  lies_of device cache making objects caches are_made = record {
    all = map plain objects;
    caches = caches;
    are = sym (whole_again (made making) (λ k. not (held making k.resource)) objects are_made);
  }
