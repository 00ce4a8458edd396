-- What a reader of objects was told.
use Rattle.std.specs.Prelude.{◌≡◌, ◌≢◌, List, [], ◌∷◌, ◌++◌, map, refl}
use Rattle.std.proofs.Common.{sym, ap, ◌∙◌, append_assoc}
use Rattle.std.proofs.lemmas.List.{append-nil, map-append}
use Rattle.std.specs.List.{AllByRecursion}
use Rattle.names.specs.Key.{Key}
use Rattle.pages.specs.Page.{Entry}
use Rattle.snapshots.specs.declared.listed.ListingReader.{ListingReader}
use Rattle.snapshots.specs.declared.cached_object.CachedObject.{CachedObject}
use Rattle.snapshots.specs.ObjectCache.{cached_entry, IsStorable}

-- Between these two states it was told the entries of objects, and has those then.
pub record IsTold (old new : ListingReader) (entries : List Entry) : Type 0 where
  pub objects : List (Key × CachedObject)
  pub added : new.objects.items ≡ old.objects.items ++ objects
  pub are : map cached_entry objects ≡ entries
  pub storable : AllByRecursion IsStorable objects

-- It refuses an entry that no object has.
abbrev pub Refuses : ListingReader → Entry → Type 0
Refuses listed entry = (object : Key × CachedObject) → IsStorable object → cached_entry object ≢ entry

pub told_none : (listed : ListingReader) → IsTold listed listed []
told_none listed = record { objects = []; added = sym (append-nil listed.objects.items); are = refl; storable = tt }

pub all_append : (xs ys : List (Key × CachedObject)) → AllByRecursion IsStorable xs → AllByRecursion IsStorable ys → AllByRecursion IsStorable (xs ++ ys)
all_append [] ys a b = b
all_append (x ∷ xs) ys a b = (a.0, all_append xs ys a.1 b)

pub told_then : (old mid new : ListingReader) (front back : List Entry) → IsTold old mid front → IsTold mid new back → IsTold old new (front ++ back)
told_then old mid new front back first second = record {
  objects = first.objects ++ second.objects;
  added =
      second.added ∙ ap (λ (objects : List (Key × CachedObject)). objects ++ second.objects) first.added
      ∙ append_assoc old.objects.items first.objects second.objects;
  are =
      map-append cached_entry first.objects second.objects ∙ ap (λ (entries : List Entry). entries ++ map cached_entry second.objects) first.are
      ∙ ap (λ (entries : List Entry). front ++ entries) second.are;
  storable = all_append first.objects second.objects first.storable second.storable;
}
