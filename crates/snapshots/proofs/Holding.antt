-- What is found among entries that hold objects.
use Rattle.std.proofs.lemmas.Bool.Decides.{nat_tests}
use Rattle.std.proofs.Common.{arith, ◌≡◌, ◌<◌, ◌∙◌, sym, ap, subst, refl, ⊎_elim, ℕ, zero, suc, Bool, true, false, cond, ◌&&◌, ◌||◌, ◌==◌, nat_eq, List, [], ◌∷◌, ◌++◌, map, Option, Some, None, IsTrue, append_assoc}
use Rattle.std.proofs.lemmas.Bool.{cases_Bool, false_from_ne_true}
use Rattle.std.proofs.lemmas.Slice.Eq.{bytes_eq-Decides}
use Rattle.std.specs.Str.{bytes_eq}
use Rattle.byteorder.specs.Endian.{big_bytes}
use Rattle.names.specs.KeyParts.{IsPlain}
use Rattle.names.specs.Resource.{row}
use Rattle.names.proofs.KeyOrder.{IsPlain-namespace}
use Rattle.std.specs.FinMap.{find, nat_cmp-IsAntisymmetric, slice_cmp-IsAntisymmetric}
use Rattle.std.specs.List.{AllByRecursion, filter, list_any}
use Rattle.std.specs.Ordering.{is_eq, eq_by_cmp}
use Rattle.std.specs.Prelude.{option_map}
use Rattle.std.specs.declared.cmp.Ordering.{Ordering}
use Rattle.std.specs.declared.cmp.Ordering.TheVariants.{Less, Equal, Greater}
use Rattle.device.specs.Disk.{Disk}
use Rattle.device.specs.Run.{Ran}
use Rattle.device.specs.Step.{Same}
use Rattle.names.specs.declared.resource.Resource.{Resource}
use Rattle.names.specs.Key.{Key, is_key, key_bytes, key_cmp}
use Rattle.names.proofs.KeyOrder.{slice_cmp-key_bytes, key_cmp-IsAntisymmetric}
use Rattle.objects.specs.Objects.{value_at, is_of}
use Rattle.pages.specs.Page.{Entry, bytes_cmp}
use Rattle.shelf.specs.Prefix.{begins, beginning}
use Rattle.shelf.specs.Shelf.{Shelves}
use Rattle.shelf.proofs.Staying.{HoldsAsBefore, shelves_stay, shelves_ran}
use Rattle.records.proofs.One.{one_object}
use Rattle.snapshots.specs.declared.cached_object.CachedObject.{CachedObject}
use Rattle.snapshots.specs.declared.listed.ListingReader.{ListingReader}
use Rattle.snapshots.specs.declared.object_cache.ObjectCache.{ObjectCache}
use Rattle.chunks.specs.Chunks.{cut_if, AreCuttable}
use Rattle.chunks.specs.Joining.{HasHeard, IsNoneTaken}
use Rattle.chunks.specs.Whole.{BeginsAlike, Wholes}
use Rattle.chunks.proofs.Cuts.{kinds}
use Rattle.chunks.proofs.Joined.{heard_whole}
use Rattle.chunks.proofs.Prefixes.{beginning_if, can_begin}
use Rattle.chunks.proofs.Wholes.{wholes_still}
use Rattle.snapshots.specs.ObjectCache.{cell_of, cached_entry, IsStorable, IsOther, HoldObjects, ObjectCaches, AreAmong, AreOf, AreCutOf, prefix_of, has_zero, root_of}
use Rattle.snapshots.specs.Listed.{IsTold, Refuses, told_then}
use Rattle.snapshots.proofs.Prefixes.{and_false, begins_of, other_begins, object_begins, other_object}

-- ---- under a key

equal_from : (o : Ordering) → is_eq o ≡ true → o ≡ Equal
equal_from Less is = cc
equal_from Equal is = refl
equal_from Greater is = cc

other_key : (bytes : List ℕ) (entry : Entry) → IsOther entry → is_eq (bytes_cmp (1 ∷ bytes) entry.0) ≡ false
other_key bytes entry other =
    ⊎_elim
    (λ tie. absurd (other bytes (sym (slice_cmp-IsAntisymmetric nat_cmp-IsAntisymmetric (1 ∷ bytes) entry.0 (equal_from (bytes_cmp (1 ∷ bytes) entry.0) tie)))))
    (λ no. no) (cases_Bool (is_eq (bytes_cmp (1 ∷ bytes) entry.0)))

-- Under an object's key stands what is stored under it, and nothing where nothing is.
pub found_cell : (key : Key) → IsTrue (is_key key) → (objects : List (Key × CachedObject)) → AllByRecursion IsStorable objects
    → (rest : List Entry) → AllByRecursion IsOther rest
    → find bytes_cmp (1 ∷ key_bytes key) (map cached_entry objects ++ rest) ≡ option_map cell_of (value_at key objects)
found_cell key is [] can [] other = refl
found_cell key is [] can (entry ∷ rest) other =
    ap (λ b. cond b (Some entry.1) (find bytes_cmp (1 ∷ key_bytes key) rest)) (other_key (key_bytes key) entry other.0) ∙ found_cell key is [] can rest other.1
found_cell key is (o ∷ objects) can rest other =
    let behind : Option (List ℕ) = find bytes_cmp (1 ∷ key_bytes key) (map cached_entry objects ++ rest) in
    let more = found_cell key is objects can.1 rest other in
    ap (λ order. cond (is_eq order) (Some (cell_of o.1)) behind) (slice_cmp-key_bytes key o.0 is can.0.0.key)
    ∙ elim (is_eq (key_cmp key o.0)) as (λ b. cond b (Some (cell_of o.1)) behind ≡ option_map cell_of (cond b (Some o.1) (value_at key objects))) [
      | true ↦ refl
      | false ↦ more
    ]

-- What is stored under a key is storable under it.
pub found_storable : (key : Key) (objects : List (Key × CachedObject)) (cached : CachedObject) → AllByRecursion IsStorable objects → value_at key objects ≡ Some cached
    → IsStorable (key, cached)
found_storable key [] cached can is = cc
found_storable key (o ∷ objects) cached can is =
    elim (is_eq (key_cmp key o.0)) as (λ b. is_eq (key_cmp key o.0) ≡ b → cond b (Some o.1) (value_at key objects) ≡ Some cached → IsStorable (key, cached)) [
      | true ↦ λ tie found.
          let same_key : o.0 ≡ key = sym (key_cmp-IsAntisymmetric key o.0 (equal_from (key_cmp key o.0) tie)) in
          let same : o.1 ≡ cached = cc in
          let Can : Key × CachedObject → Type 0 = λ p. IsStorable p in
          subst Can (λ i. (same_key i, same i)) can.0
      | false ↦ λ other found. found_storable key objects cached can.1 found
    ] refl is

-- ---- that begin so

-- The entries that begin with a resource's prefix are those of its objects.
pub beginning_of : (resource : Resource) (namespace : Option (List ℕ)) (objects : List (Key × CachedObject)) → AllByRecursion IsStorable objects
    → (rest : List Entry) → AllByRecursion IsOther rest
    → beginning (prefix_of resource namespace) (map cached_entry objects ++ rest) ≡ map cached_entry (filter (λ o. is_of resource namespace o.0) objects)
beginning_of resource namespace [] can [] other = refl
beginning_of resource namespace [] can (entry ∷ rest) other =
    let behind : List Entry = beginning (prefix_of resource namespace) rest in
    ap (λ b. cond b (entry ∷ behind) behind) (other_begins resource namespace entry other.0) ∙ beginning_of resource namespace [] can rest other.1
beginning_of resource namespace (o ∷ objects) can rest other =
    let behind : List Entry = beginning (prefix_of resource namespace) (map cached_entry objects ++ rest) in
    let others : List (Key × CachedObject) = filter (λ o. is_of resource namespace o.0) objects in
    let more = beginning_of resource namespace objects can.1 rest other in
    ap (λ b. cond b (cached_entry o ∷ behind) behind) (begins_of resource namespace o.0 can.0.0.key)
    ∙ elim (is_of resource namespace o.0) as (λ b. cond b (cached_entry o ∷ behind) behind ≡ map cached_entry (cond b (o ∷ others) others)) [
      | true ↦ ap (λ (es : List Entry). cached_entry o ∷ es) more
      | false ↦ more
    ]

-- The entries that begin with 1 are those of objects.
pub beginning_all : (objects : List (Key × CachedObject)) (rest : List Entry) → AllByRecursion IsOther rest
    → beginning (1 ∷ []) (map cached_entry objects ++ rest) ≡ map cached_entry objects
beginning_all [] [] other = refl
beginning_all [] (entry ∷ rest) other =
    let behind : List Entry = beginning (1 ∷ []) rest in
    ap (λ b. cond b (entry ∷ behind) behind) (other_object entry other.0) ∙ beginning_all [] rest other.1
beginning_all (o ∷ objects) rest other =
    let behind : List Entry = beginning (1 ∷ []) (map cached_entry objects ++ rest) in
    ap (λ b. cond b (cached_entry o ∷ behind) behind) (object_begins o.0) ∙ ap (λ (es : List Entry). cached_entry o ∷ es) (beginning_all objects rest other)

pub filter_storable : (p : Key × CachedObject → Bool) (objects : List (Key × CachedObject)) → AllByRecursion IsStorable objects → AllByRecursion IsStorable (filter p objects)
filter_storable p [] can = tt
filter_storable p (o ∷ objects) can =
    elim (p o) as (λ b. AllByRecursion IsStorable (cond b (o ∷ filter p objects) (filter p objects))) [
      | true ↦ (can.0, filter_storable p objects can.1)
      | false ↦ filter_storable p objects can.1
    ]

-- ---- of entries the objects

-- Objects with the same entries are the same.
pub same_objects : (xs ys : List (Key × CachedObject)) → AllByRecursion IsStorable xs → AllByRecursion IsStorable ys → map cached_entry xs ≡ map cached_entry ys → xs ≡ ys
same_objects [] [] a b same = refl
same_objects [] (y ∷ ys) a b same = cc
same_objects (x ∷ xs) [] a b same = cc
same_objects (x ∷ xs) (y ∷ ys) a b same =
    let head : cached_entry x ≡ cached_entry y = cc in
    let others : map cached_entry xs ≡ map cached_entry ys = cc in
    let parts = one_object x.0 y.0 x.1.document y.1.document x.1.revision y.1.revision a.0 b.0 head in
    let rest = same_objects xs ys a.1 b.1 others in
    λ i. (parts.0 i, record { document = parts.1 i; revision = parts.2 i }) ∷ rest i

-- Each entry among those of objects is one's.
pub stands_among : (objects : List (Key × CachedObject)) → AllByRecursion IsStorable objects → (before : List Entry) (entry : Entry) (after : List Entry)
    → map cached_entry objects ≡ before ++ entry ∷ after → (o : Key × CachedObject) × IsStorable o × (cached_entry o ≡ entry)
stands_among [] can [] entry after same = cc
stands_among [] can (e ∷ before) entry after same = cc
stands_among (o ∷ objects) can [] entry after same =
    let head : cached_entry o ≡ entry = cc in
    (o, can.0, head)
stands_among (o ∷ objects) can (e ∷ before) entry after same =
    let others : map cached_entry objects ≡ before ++ entry ∷ after = cc in
    stands_among objects can.1 before entry after others

-- ---- of entries that hold objects

module _ (entries : List Entry) (objects : List (Key × CachedObject)) (hold : HoldObjects entries objects) where
  module _ (key : Key) (is : IsTrue (is_key key)) (bytes : List ℕ) (are : bytes ≡ 1 ∷ key_bytes key) where
    found_there : find bytes_cmp bytes entries ≡ option_map cell_of (value_at key objects)
    found_there =
        (λ i. find bytes_cmp (are i) (hold.are i)) ∙ found_cell key is objects hold.storable hold.rest hold.other

    -- Where nothing stands under an object's key, nothing is stored under the key.
    pub none_there : None ≡ find bytes_cmp bytes entries → None ≡ value_at key objects
    none_there none = step (value_at key objects) (none ∙ found_there)
      where
        step : (value : Option CachedObject) → None ≡ option_map cell_of value → None ≡ value
        step None same = refl
        step (Some s) same = cc

    -- Where a cell does, it is that of what is stored.
    pub stands_there : (cell : List ℕ) → Some cell ≡ find bytes_cmp bytes entries
        → (s : CachedObject) × (value_at key objects ≡ Some s) × IsStorable (key, s) × (cached_entry (key, s) ≡ (bytes, cell))
    stands_there cell found = step (value_at key objects) refl (found ∙ found_there)
      where
        step : (value : Option CachedObject) → value_at key objects ≡ value → Some cell ≡ option_map cell_of value
            → (s : CachedObject) × (value_at key objects ≡ Some s) × IsStorable (key, s) × (cached_entry (key, s) ≡ (bytes, cell))
        step None stored same = cc
        step (Some s) stored same =
            let cells : cell ≡ cell_of s = cc in
            (s, stored, found_storable key objects s hold.storable stored, λ i. (sym are i, sym cells i))

    -- So is an object that is read from it.
    pub read_there : (cell : List ℕ) (o : Key × CachedObject) → Some cell ≡ find bytes_cmp bytes entries → IsStorable o → cached_entry o ≡ (bytes, cell)
        → Some o.1 ≡ value_at key objects
    read_there cell o found can read =
        let there = stands_there cell found in
        let same = same_objects (o ∷ []) ((key, there.0) ∷ []) (can, tt) (there.2, tt) (λ i. (read ∙ sym there.3) i ∷ []) in
        let first : o ≡ (key, there.0) = cc in
        ap (λ (p : Key × CachedObject). Some p.1) first ∙ sym there.1

  module _ (resource : Resource) (namespace : Option (List ℕ)) (prefix : List ℕ) (are : prefix ≡ prefix_of resource namespace) where
    begin_so : beginning prefix entries ≡ map cached_entry (filter (λ o. is_of resource namespace o.0) objects)
    begin_so =
        (λ i. beginning (are i) (hold.are i)) ∙ beginning_of resource namespace objects hold.storable hold.rest hold.other

    can_filtered : AllByRecursion IsStorable (filter (λ o. is_of resource namespace o.0) objects)
    can_filtered = filter_storable (λ o. is_of resource namespace o.0) objects hold.storable

    -- The entries with the prefix of a resource are those of its objects.
    pub are_of : AreOf (beginning prefix entries) (filter (λ o. is_of resource namespace o.0) objects)
    are_of = record { are = begin_so; storable = can_filtered }

  -- Those that begin with 1 are those of all objects.
  pub are_all : AreOf (beginning (1 ∷ []) entries) objects
  are_all = record { are = ap (λ (es : List Entry). beginning (1 ∷ []) es) hold.are ∙ beginning_all objects hold.rest hold.other; storable = hold.storable }

-- ---- as a format has them

not_nought : (x : ℕ) → (suc x == 0) ≡ false
not_nought x = grind (arith, nat_tests)

-- the zero byte ends the namespace, whatever follows
zero_ends : (xs ys us vs : List ℕ) → list_any (λ byte. byte == 0) xs ≡ false → IsPlain ys → begins (xs ++ 0 ∷ []) (ys ++ 0 ∷ us) ≡ begins (xs ++ 0 ∷ []) (ys ++ 0 ∷ vs)
zero_ends [] [] us vs none plain = refl
zero_ends [] (y ∷ ys) us vs none plain = refl
zero_ends (x ∷ xs) [] us vs none plain =
    let other : nat_eq x 0 ≡ false = not_first x xs none in
    (λ i. other i && begins (xs ++ 0 ∷ []) us) ∙ sym (λ i. other i && begins (xs ++ 0 ∷ []) vs)
  where
    not_first : (x : ℕ) (xs : List ℕ) → list_any (λ byte. byte == 0) (x ∷ xs) ≡ false → nat_eq x 0 ≡ false
    not_first zero xs none = cc
    not_first (suc x) xs none = grind (arith, nat_tests)
zero_ends (x ∷ xs) (y ∷ ys) us vs none plain = ap (λ b. nat_eq x y && b) (zero_ends xs ys us vs (behind x xs none) plain.2)
  where
    behind : (x : ℕ) (xs : List ℕ) → list_any (λ byte. byte == 0) (x ∷ xs) ≡ false → list_any (λ byte. byte == 0) xs ≡ false
    behind zero xs none = cc
    behind (suc x) xs none = sym (ap (λ b. b || list_any (λ byte. byte == 0) xs) (not_nought x)) ∙ none

some_is : {A : Type 0} {x y : A} → Some x ≡ Some y → x ≡ y
some_is same = cc

object_alike : (resource : Resource) (namespace : Option (List ℕ)) → has_zero namespace ≡ false → (o : Key × CachedObject) → IsStorable o → BeginsAlike (prefix_of resource namespace) (cached_entry o)
object_alike resource None none o can stem is n =
    ap (λ (s : List ℕ). begins (prefix_of resource None) (s ++ big_bytes 2 n)) (sym (some_is is))
object_alike resource (Some namespace) none o can stem is n =
    let k : Key = o.0 in
    let number : Bool = nat_eq (row resource).number (row k.resource).number in
    ap (λ (s : List ℕ). begins (prefix_of resource (Some namespace)) (s ++ big_bytes 2 n)) (sym (some_is is))
    ∙ ap (λ (s : List ℕ). begins (prefix_of resource (Some namespace)) (1 ∷ (row k.resource).number ∷ s))
    (append_assoc (k.namespace ++ 0 ∷ k.name) (0 ∷ []) (big_bytes 2 n) ∙ append_assoc k.namespace (0 ∷ k.name) (0 ∷ big_bytes 2 n))
    ∙ ap (λ b. number && b) (zero_ends namespace k.namespace (k.name ++ 0 ∷ big_bytes 2 n) k.name none (IsPlain-namespace k can.0.key))

other_alike : (resource : Resource) (namespace : Option (List ℕ)) (e : Entry) → IsOther e → BeginsAlike (prefix_of resource namespace) e
other_alike resource namespace e other stem is n =
    ⊎_elim
    (λ o. absurd (other o.rest o.key_is))
    (λ v. other_begins resource namespace (stem ++ big_bytes 2 n, []) (λ rest same. let never : ◌≡◌ {A = List ℕ} (3 ∷ (v.rest ++ big_bytes 2 n)) (1 ∷ rest) = ap (λ (s : List ℕ). s ++ big_bytes 2 n) (sym v.stem_is) ∙ same in cc)
    ∙ sym (other_begins resource namespace e other))
    (kinds e.0 stem is)

-- Objects' entries, and others, begin with the prefix of a resource as their chunks do.
alike_of : (resource : Resource) (namespace : Option (List ℕ)) → has_zero namespace ≡ false → (objects : List (Key × CachedObject)) → AllByRecursion IsStorable objects
    → (rest : List Entry) → AllByRecursion IsOther rest → AllByRecursion (BeginsAlike (prefix_of resource namespace)) (map cached_entry objects ++ rest)
alike_of resource namespace none [] can [] other = tt
alike_of resource namespace none [] can (e ∷ rest) other = (other_alike resource namespace e other.0, alike_of resource namespace none [] can rest other.1)
alike_of resource namespace none (o ∷ objects) can rest other = (object_alike resource namespace none o can.0, alike_of resource namespace none objects can.1 rest other)

all_alike_of : (objects : List (Key × CachedObject)) (rest : List Entry) → AllByRecursion IsOther rest → AllByRecursion (BeginsAlike (1 ∷ [])) (map cached_entry objects ++ rest)
all_alike_of [] [] other = tt
all_alike_of [] (e ∷ rest) other = (one_alike e other.0, all_alike_of [] rest other.1)
  where
    one_alike : (e : Entry) → IsOther e → BeginsAlike (1 ∷ []) e
    one_alike e other stem is n =
        ⊎_elim
        (λ o. absurd (other o.rest o.key_is))
        (λ v. other_object (stem ++ big_bytes 2 n, []) (λ rest same. let never : ◌≡◌ {A = List ℕ} (3 ∷ (v.rest ++ big_bytes 2 n)) (1 ∷ rest) = ap (λ (s : List ℕ). s ++ big_bytes 2 n) (sym v.stem_is) ∙ same in cc)
        ∙ sym (other_object e other))
        (kinds e.0 stem is)
all_alike_of (o ∷ objects) rest other =
    ((λ stem is n. ap (λ (s : List ℕ). begins (1 ∷ []) (s ++ big_bytes 2 n)) (sym (some_is is))), all_alike_of objects rest other)

module _ (entries : List Entry) (objects : List (Key × CachedObject)) (hold : HoldObjects entries objects) where
  pub alike : (resource : Resource) (namespace : Option (List ℕ)) → has_zero namespace ≡ false → (prefix : List ℕ) → prefix ≡ prefix_of resource namespace
      → AllByRecursion (BeginsAlike prefix) entries
  alike resource namespace none prefix are =
      let All : List ℕ → List Entry → Type 0 = λ p es. AllByRecursion (BeginsAlike p) es in
      subst (λ (p : List ℕ). All p entries) (sym are)
      (subst (All (prefix_of resource namespace)) (sym hold.are) (alike_of resource namespace none objects hold.storable hold.rest hold.other))

  pub all_alike : AllByRecursion (BeginsAlike (1 ∷ [])) entries
  all_alike =
      let All : List Entry → Type 0 = λ es. AllByRecursion (BeginsAlike (1 ∷ [])) es in
      subst All (sym hold.are) (all_alike_of objects hold.rest hold.other)

-- In a namespace with a zero byte there are no objects.
pub none_listed : (resource : Resource) (namespace : Option (List ℕ)) → has_zero namespace ≡ true → (objects : List (Key × CachedObject)) → AllByRecursion IsStorable objects
    → filter (λ o. is_of resource namespace o.0) objects ≡ []
none_listed resource None is objects can = cc
none_listed resource (Some namespace) is [] can = refl
none_listed resource (Some namespace) is (o ∷ objects) can =
    let behind : List (Key × CachedObject) = filter (λ o. is_of resource (Some namespace) o.0) objects in
    ap (λ b. cond b (o ∷ behind) behind)
    (and_false ((row o.0.resource).number == (row resource).number) (bytes_eq o.0.namespace namespace)
    (false_from_ne_true (bytes_eq o.0.namespace namespace) (λ same. plain_zero namespace
    (subst IsPlain ((bytes_eq-Decides o.0.namespace namespace).0 same) (IsPlain-namespace o.0 can.0.0.key)) is)))
    ∙ none_listed resource (Some namespace) is objects can.1
  where
    plain_zero : (xs : List ℕ) → IsPlain xs → list_any (λ byte. byte == 0) xs ≡ true → ⊥
    plain_zero [] plain has = cc
    plain_zero (zero ∷ xs) plain has = omega (arith, plain.0)
    plain_zero (suc x ∷ xs) plain has = plain_zero xs plain.2 (sym (ap (λ b. b || list_any (λ byte. byte == 0) xs) (not_nought x)) ∙ has)

-- ---- of a reader of objects' entries

-- A reader that heard entries has the objects that they are of.
pub heard_are : (c : Bool) (entries : List Entry) (old new : ListingReader) → old.objects.items ≡ [] → HasHeard IsTold c old new entries → AreCutOf c entries new.objects.items
heard_are c entries old new none heard =
    let told : IsTold old new heard.whole = heard.told_on in
    let items : new.objects.items ≡ told.objects = told.added ∙ ap (λ (os : List (Key × CachedObject)). os ++ told.objects) none in
    record {
      are = sym heard.are ∙ ap (λ (es : List Entry). cut_if c es) (sym told.are ∙ ap (map cached_entry) (sym items));
      storable = subst (λ (os : List (Key × CachedObject)). AllByRecursion IsStorable os) (sym items) told.storable;
    }

module _ (c : Bool) (prefix : List ℕ) (entries : List Entry) (objects : List (Key × CachedObject)) (can : AreCuttable entries) (alike : AllByRecursion (BeginsAlike prefix) entries)
    (of : AreOf (beginning prefix entries) objects) where
  can_be : AreCuttable (beginning prefix entries)
  can_be = can_begin prefix entries can

  cut_so : cut_if c (beginning prefix entries) ≡ beginning prefix (cut_if c entries)
  cut_so = sym (beginning_if c prefix entries alike)

  -- A reader that heard them has the objects.
  pub told_objects : (old new : ListingReader) → old.objects.items ≡ [] → HasHeard IsTold c old new (beginning prefix (cut_if c entries)) → new.objects.items ≡ objects
  told_objects old new none heard =
      let told : IsTold old new (beginning prefix entries) = heard_whole IsTold told_then c old new (beginning prefix (cut_if c entries)) (beginning prefix entries) can_be cut_so heard in
      told.added ∙ ap (λ (os : List (Key × CachedObject)). os ++ told.objects) none ∙ same_objects told.objects objects told.storable of.storable (told.are ∙ of.are)

  -- It refuses none of them.
  pub none_refused : (old : ListingReader) → IsNoneTaken IsTold Refuses c old (beginning prefix (cut_if c entries)) → ⊥
  none_refused old not_taken =
      not_taken (beginning prefix entries) can_be cut_so
      (λ refused. let found = stands_among objects of.storable refused.before refused.entry refused.after (sym of.are ∙ refused.are) in refused.refused found.0 found.1 found.2)

-- ---- of objects that were found

-- None are among all.
pub none_among : (some objects : List (Key × CachedObject)) → some ≡ [] → AreAmong some objects
none_among some objects none = λ key s is.
    let never : None ≡ Some s = ap (value_at key) (sym none) ∙ is in cc

-- One more is, where it is one of the others.
pub one_among : (some more objects : List (Key × CachedObject)) (key : Key) (s : CachedObject)
    → ((k : Key) → value_at k more ≡ cond (eq_by_cmp key_cmp k key) (Some s) (value_at k some)) → value_at key objects ≡ Some s
    → AreAmong some objects → AreAmong more objects
one_among some more objects key s put is among = λ k x found.
    let found_in : cond (is_eq (key_cmp k key)) (Some s) (value_at k some) ≡ Some x = sym (put k) ∙ found in
    elim (is_eq (key_cmp k key)) as (λ b. is_eq (key_cmp k key) ≡ b → cond b (Some s) (value_at k some) ≡ Some x → value_at k objects ≡ Some x) [
      | true ↦ λ tie same. ap (λ (k : Key). value_at k objects) (key_cmp-IsAntisymmetric k key (equal_from (key_cmp k key) tie)) ∙ is ∙ same
      | false ↦ λ other same. among k x same
    ] refl found_in

-- ---- of caches

module _ {D : Type 0} (disk : Disk D) where
  -- A cache whose pages hold what another's do, and whose found objects are among those, holds the same objects.
  pub still : (before after : D) (old new : ObjectCache) → ((entries : List Entry) → Shelves disk before old.shelf entries → Shelves disk after new.shelf entries)
      → root_of new ≡ root_of old → (objects : List (Key × CachedObject)) → (AreAmong old.found.entries objects → AreAmong new.found.entries objects)
      → ObjectCaches disk before old objects → ObjectCaches disk after new objects
  still before after old new kept root objects among caches =
      record { entries = caches.entries; shelves = wholes_still disk before after old.shelf new.shelf kept root caches.entries caches.shelves; hold = caches.hold; found = among caches.found }

  -- So it does where an object is kept that was read from its pages.
  pub still_with : (before after : D) (old new : ObjectCache) → ((entries : List Entry) → Shelves disk before old.shelf entries → Shelves disk after new.shelf entries)
      → root_of new ≡ root_of old → (key : Key) → IsTrue (is_key key) → (bytes : List ℕ) → bytes ≡ 1 ∷ key_bytes key
      → (cell : List ℕ) (o : Key × CachedObject) → ((entries : List Entry) → Wholes disk before old.shelf entries → Some cell ≡ find bytes_cmp bytes entries)
      → IsStorable o → cached_entry o ≡ (bytes, cell)
      → ((objects : List (Key × CachedObject)) → value_at key objects ≡ Some o.1 → AreAmong old.found.entries objects → AreAmong new.found.entries objects)
      → (objects : List (Key × CachedObject)) → ObjectCaches disk before old objects → ObjectCaches disk after new objects
  still_with before after old new kept root key is bytes are cell o found can read among objects caches =
      let there = read_there caches.entries objects caches.hold key is bytes are cell o (found caches.entries caches.shelves) can read in
      record {
        entries = caches.entries;
        shelves = wholes_still disk before after old.shelf new.shelf kept root caches.entries caches.shelves;
        hold = caches.hold;
        found = among objects (sym there) caches.found;
      }

  -- What a cache holds stays where the device holds, up to the start of the log, what it held. Where there are no pages nothing is asked of it.
  pub caches_stay : (cache : ObjectCache) (old new : D) (objects : List (Key × CachedObject)) → (0 < (root_of cache).pages → HoldsAsBefore disk cache.shelf old new)
      → ObjectCaches disk old cache objects → ObjectCaches disk new cache objects
  caches_stay cache old new objects as_before caches =
      still old new cache cache (λ entries shelves. shelves_stay disk cache.shelf old new entries as_before shelves) refl objects (λ among. among) caches

  -- So it does where the device was read, and nothing was written.
  pub caches_ran : (cache : ObjectCache) (old new : D) (objects : List (Key × CachedObject)) → Ran disk old new Same → ObjectCaches disk old cache objects → ObjectCaches disk new cache objects
  caches_ran cache old new objects ran caches =
      still old new cache cache (λ entries shelves. shelves_ran disk cache.shelf old new entries ran shelves) refl objects (λ among. among) caches
