-- One object more is held.
use Rattle.std.proofs.Common.{◌≡◌, ◌∙◌, sym, ap, subst, Bool, true, false, cond, is_some, List, [], Result, Ok, Err, OnOk, IsTrue}
use Rattle.std.specs.FinMap.{is_sorted}
use Rattle.std.specs.Prelude.{Option, Some, None}
use Rattle.names.specs.declared.resource.Resource.{Resource}
use Rattle.names.specs.Key.{Key, key_cmp}
use Rattle.objects.specs.Objects.{value_at, with_value}
use Rattle.objects.specs.Merged.{changed}
use Rattle.objects.proofs.Changing.{T_from_true, true_from_T, sorted-merged}
use Rattle.objects.proofs.Covering.{merged-same}
use Rattle.histories.specs.declared.stored.Stored.{Stored}
use Rattle.histories.specs.View.{View, stored_at, exists}
use Rattle.holdings.specs.Holdings.{Shows}
use Rattle.decoded.specs.Decoded.{Decoded}
use Rattle.snapshots.specs.Restoring.{HasTaken, with_objects}
use Rattle.snapshots.proofs.Held.{Core, Object}

-- what changes leave ascends
left_ascends : (core : Core) (base : List Object) (v : View Decoded) → Shows core base v → IsTrue (is_sorted key_cmp v.objects)
left_ascends core base v shows =
    ap (λ (os : List Object). is_sorted key_cmp os) (sym shows.objects.are)
    ∙ true_from_T _ (sorted-merged core.changes.made base (T_from_true _ shows.objects.ascends))

-- to put what stands there changes nothing
put_again : (core : Core) (base : List Object) (v : View Decoded) (k : Key) (s : Stored Decoded) → Shows core base v → value_at k v.objects ≡ Some s
    → with_value k s v.objects ≡ v.objects
put_again core base v k s shows found =
    ap (λ (there : Option (Stored Decoded)). changed k there v.objects) (sym found) ∙ merged-same k [] v.objects (left_ascends core base v shows)

-- as it is, where it lies below,
pub taken_as_it_is : {A E : Type 0} (result : Result A E) (lies : Resource → Bool) (old new : Core) (k : Key) (s : Stored Decoded) → lies k.resource ≡ true
    → OnOk result (new.changes.made ≡ with_value k (Some s) old.changes.made)
    → ((base : List Object) (v : View Decoded) → Shows old base v → stored_at v k ≡ Some s → Shows new base v)
    → OnOk result (HasTaken lies old new (k, s))
taken_as_it_is (Err e) lies old new k s below made shows = tt
taken_as_it_is (Ok x) lies old new k s below made shows = record {
  made = made;
  shows = λ base v before found.
      let there : value_at k v.objects ≡ Some s = found ∙ ap (λ (b : Bool). cond b (Some s) None) below in
      subst (λ (os : List Object). Shows new base (with_objects v os)) (sym (put_again old base v k s before there)) (shows base v before there);
}

-- and else as one more
pub taken_as_one_more : {A E : Type 0} (result : Result A E) (lies : Resource → Bool) (old new : Core) (k : Key) (s : Stored Decoded) → lies k.resource ≡ false
    → OnOk result (new.changes.made ≡ with_value k (Some s) old.changes.made)
    → ((base : List Object) (v : View Decoded) → Shows old base v → exists v k ≡ false → OnOk result (Shows new base (with_objects v (with_value k s v.objects))))
    → OnOk result (HasTaken lies old new (k, s))
taken_as_one_more (Err e) lies old new k s above made shows = tt
taken_as_one_more (Ok x) lies old new k s above made shows = record {
  made = made;
  shows = λ base v before found.
      let none : value_at k v.objects ≡ None = found ∙ ap (λ (b : Bool). cond b (Some s) None) above in
      shows base v before (ap is_some none);
}
