-- Whether entries have one of an object that has no change.
use Rattle.std.proofs.Common.{arith, ◌≡◌, ◌∙◌, sym, ap, subst, refl, ⊎_elim, ◌+◌, ◌<◌, ℕ, zero, suc, Bool, true, false, cond, not, ◌&&◌, ◌||◌, List, [], ◌∷◌, ◌++◌, map, Option, Some, None, is_some, IsTrue, Result, Ok, Err, IfOk}
use Rattle.std.proofs.lemmas.Bool.{cases_Bool}
use Rattle.std.specs.List.{AllByRecursion, filter, list_any, range_with_len}
use Rattle.std.specs.Prelude.{option_map}
use Rattle.byteorder.specs.Endian.{big_bytes}
use Rattle.std.specs.Option.{option_copied}
use denote.Ref.{Bor}
use Rattle.names.specs.declared.format.Format.{Format}
use Rattle.names.specs.declared.resource.Resource.{Resource}
use Rattle.names.specs.Format.{has_chunks}
use Rattle.names.specs.Key.{Key, is_key, key_bytes}
use Rattle.names.proofs.KeyOrder.{key_bytes-injective}
use Rattle.documents.specs.Document.{Document}
use Rattle.objects.specs.Changes.{Changes}
use Rattle.objects.specs.Objects.{value_at, is_of}
use Rattle.histories.specs.declared.stored.Stored.{Stored}
use Rattle.holdings.specs.Sources.{is_unchanged}
use Rattle.pages.specs.Page.{Entry}
use Rattle.checkpoint.specs.Reader.{IsRefused}
use Rattle.shelf.specs.Prefix.{beginning}
use Rattle.chunks.specs.Chunks.{chunk_entry, chunks_of, count_of, cuts, cut_if, AreCuttable}
use Rattle.chunks.specs.Whole.{part_key, BeginsAlike}
use Rattle.chunks.proofs.Cuts.{few_chunks}
use Rattle.chunks.proofs.Prefixes.{beginning_if, can_begin}
use Rattle.snapshots.specs.declared.cached_object.CachedObject.{CachedObject}
use Rattle.snapshots.specs.declared.changed.ChangedReader.{ChangedReader}
use Rattle.snapshots.specs.ObjectCache.{cached_entry, cell_of, IsStorable, AreOf}
use Rattle.snapshots.specs.Changed.{IsChanged, IsUnchanged, AreChanged, IsTold, Refuses, cuts_for}
use Rattle.snapshots.specs.Base.{not_held}
use Rattle.snapshots.specs.Whole.{whole}
use Rattle.snapshots.proofs.Objects.{listed_lying, none_listed}

-- ---- one of some

pub any_filter : {Y : Type 0} (p u : Y → Bool) (xs : List Y) → list_any (λ x. p x && u x) xs ≡ list_any u (filter p xs)
any_filter p u [] = refl
any_filter p u (x ∷ xs) =
    elim (p x) as (λ b. ((b && u x) || list_any (λ x. p x && u x) xs) ≡ list_any u (cond b (x ∷ filter p xs) (filter p xs))) [
      | true ↦ ap (λ b. u x || b) (any_filter p u xs)
      | false ↦ any_filter p u xs
    ]

any_map : {Y Z : Type 0} (f : Y → Z) (u : Z → Bool) (xs : List Y) → list_any u (map f xs) ≡ list_any (λ x. u (f x)) xs
any_map f u [] = refl
any_map f u (x ∷ xs) = ap (λ b. u (f x) || b) (any_map f u xs)

or_true : (a b : Bool) → b ≡ true → (a || b) ≡ true
or_true true b is = refl
or_true false b is = is

-- ---- of a key that is read

-- The key that is read from an object's entry is the object's.
pub key_read : (whole : List ℕ) (mark : ℕ) (parts : List ℕ) (read key : Key) → whole ≡ mark ∷ parts → key_bytes read ≡ parts → IsTrue (is_key read) → IsTrue (is_key key)
    → whole ≡ 1 ∷ key_bytes key → read ≡ key
key_read whole mark parts read key split value is wanted same =
    let both : mark ∷ parts ≡ 1 ∷ key_bytes key = sym split ∙ same in
    let spelled : parts ≡ key_bytes key = cc in
    key_bytes-injective read key is wanted (value ∙ spelled)

-- The entry that was found is the object's.
pub whole_read : (found : Option (Bor (List ℕ))) (read : Bor (List ℕ)) (whole : List ℕ) → found ≡ Some read → option_map (λ k. k.now) found ≡ Some whole → read.now ≡ whole
whole_read found read whole is of =
    let same : Some read.now ≡ Some whole = ap (option_map (λ (k : Bor (List ℕ)). k.now)) (sym is) ∙ of in
    cc

some_copied : {A : Type 0} (got : Option (Bor A)) → is_some (option_copied got) ≡ is_some got
some_copied None = refl
some_copied (Some x) = refl

none_of : {A : Type 0} (o : Option A) → is_some o ≡ false → o ≡ None
none_of None is = refl
none_of (Some x) is = cc

module _ {X : Type 0} (changes : List (Key × Option X)) (read key : Key) (got : Option (Bor (Option X))) (some : Bool) (same : read ≡ key)
    (copied : option_copied got ≡ value_at read changes) (told : some ≡ is_some got) where
  is_told : is_some (value_at key changes) ≡ some
  is_told = ap (λ (k : Key). is_some (value_at k changes)) (sym same) ∙ ap is_some (sym copied) ∙ some_copied got ∙ sym told

  pub change_found : some ≡ true → IsTrue (is_some (value_at key changes))
  change_found has = is_told ∙ has

  pub change_missing : some ≡ false → value_at key changes ≡ None
  change_missing lacks = none_of (value_at key changes) (is_told ∙ lacks)

-- ---- of entries

module _ (P : Entry → Type 0) where
  first_of : (stem value : List ℕ) (count : ℕ) → 0 < count → (rest : List Entry) → AllByRecursion P (map (chunk_entry stem value) (range_with_len 0 count) ++ rest)
      → P (chunk_entry stem value 0)
  first_of stem value zero some rest all = absurd (omega (arith, some))
  first_of stem value (suc count) some rest all = all.0

  rest_of : (xs ys : List Entry) → AllByRecursion P (xs ++ ys) → AllByRecursion P ys
  rest_of [] ys all = all
  rest_of (x ∷ xs) ys all = rest_of xs ys all.1

  one_of : (before : List Entry) (entry : Entry) (after : List Entry) → AllByRecursion P (before ++ entry ∷ after) → P entry
  one_of before entry after all = (rest_of before (entry ∷ after) all).0

  all_of : (xs ys : List Entry) → AllByRecursion P xs → AllByRecursion P ys → AllByRecursion P (xs ++ ys)
  all_of [] ys a b = b
  all_of (x ∷ xs) ys a b = (a.0, all_of xs ys a.1 b)

  all_chunks : (stem value : List ℕ) → ((chunk : ℕ) → P (chunk_entry stem value chunk)) → (from count : ℕ)
      → AllByRecursion P (map (chunk_entry stem value) (range_with_len from count))
  all_chunks stem value each from zero = tt
  all_chunks stem value each from (suc count) = (each from, all_chunks stem value each (from + 1) count)

or_false : (a b : Bool) → (a || b) ≡ false → (a ≡ false) × (b ≡ false)
or_false false b is = (refl, is)
or_false true b is = cc

not_false : (b : Bool) → not b ≡ false → IsTrue b
not_false true is = refl
not_false false is = cc

module _ {X : Type 0} (changes : List (Key × Option X)) where
  abbrev pub has_none : Key × CachedObject → Bool
  has_none o = not (is_some (value_at o.0 changes))

  abbrev rest_any : List (Key × CachedObject) → Bool
  rest_any objects = list_any has_none objects

  -- where each has a change none has none,
  all_changed : (c : Bool) (objects : List (Key × CachedObject)) → AllByRecursion IsStorable objects → AreCuttable (map cached_entry objects)
      → AreChanged c changes (cut_if c (map cached_entry objects)) → rest_any objects ≡ false
  all_changed false [] can cuttable changed = refl
  all_changed true [] can cuttable changed = refl
  all_changed false (o ∷ objects) can cuttable changed =
      ap (λ b. not b || rest_any objects) (changed.0 o.0 0 can.0.0.key refl) ∙ all_changed false objects can.1 cuttable.1 changed.1
  all_changed true (o ∷ objects) can cuttable changed =
      let P : Entry → Type 0 = λ e. IsChanged true changes e.0 in
      let stem : List ℕ = (1 ∷ key_bytes o.0) ++ 0 ∷ [] in
      let value : List ℕ = cell_of o.1 in
      let others : List Entry = cuts (map cached_entry objects) in
      let first : IsChanged true changes (stem ++ big_bytes 2 0) = first_of P stem value (count_of value) (few_chunks value cuttable.0.0 cuttable.0.1).0 others changed in
      ap (λ b. not b || rest_any objects) (first o.0 0 can.0.0.key refl) ∙ all_changed true objects can.1 cuttable.1 (rest_of P (chunks_of stem value) others changed)

  -- The entry, or chunk, is of an object that has a change.
  abbrev IsOfChanged : Bool → Entry → Type 0
  IsOfChanged c e = (key : Key) × IsTrue (is_key key) × (chunk : ℕ) × (e.0 ≡ part_key c (1 ∷ key_bytes key) chunk) × IsTrue (is_some (value_at key changes))

  each_of_changed : (c : Bool) (objects : List (Key × CachedObject)) → AllByRecursion IsStorable objects → rest_any objects ≡ false
      → AllByRecursion (λ e. IsOfChanged c e) (cut_if c (map cached_entry objects))
  each_of_changed false [] can none = tt
  each_of_changed true [] can none = tt
  each_of_changed false (o ∷ objects) can none =
      let parts = or_false (has_none o) (rest_any objects) none in
      ((o.0, can.0.0.key, 0, refl, not_false (is_some (value_at o.0 changes)) parts.0), each_of_changed false objects can.1 parts.1)
  each_of_changed true (o ∷ objects) can none =
      let P : Entry → Type 0 = λ e. IsOfChanged true e in
      let parts = or_false (has_none o) (rest_any objects) none in
      let stem : List ℕ = (1 ∷ key_bytes o.0) ++ 0 ∷ [] in
      let value : List ℕ = cell_of o.1 in
      let each : (chunk : ℕ) → IsOfChanged true (chunk_entry stem value chunk) =
      λ chunk. (o.0, can.0.0.key, chunk, refl, not_false (is_some (value_at o.0 changes)) parts.0) in
      all_of P (chunks_of stem value) (cuts (map cached_entry objects)) (all_chunks P stem value each 0 (count_of value)) (each_of_changed true objects can.1 parts.1)

  -- and where one has none it is one of them
  one_unchanged : (c : Bool) (objects : List (Key × CachedObject)) → AllByRecursion IsStorable objects → (before : List Entry) (entry : Entry) (after : List Entry)
      → cut_if c (map cached_entry objects) ≡ before ++ entry ∷ after → IsUnchanged c changes entry.0 → rest_any objects ≡ true
  one_unchanged c objects can before entry after same unchanged =
      ⊎_elim (λ yes. yes)
      (λ no. let Each : List Entry → Type 0 = λ es. AllByRecursion (λ e. IsOfChanged c e) es in
      let of = one_of (λ e. IsOfChanged c e) before entry after (subst Each same (each_of_changed c objects can no)) in
      absurd (never (value_at of.0 changes) (unchanged of.0 of.2 of.1 of.3) of.4))
      (cases_Bool (rest_any objects))
    where
      never : (value : Option (Option X)) → value ≡ None → IsTrue (is_some value) → ⊥
      never None is some = cc
      never (Some x) is some = cc

module _ {X : Type 0} (c : Bool) (prefix : List ℕ) (entries : List Entry) (objects : List (Key × CachedObject)) (can : AreCuttable entries)
    (alike : AllByRecursion (BeginsAlike prefix) entries) (of : AreOf (beginning prefix entries) objects) (old : ChangedReader X) (at : cuts_for old ≡ c) where
  abbrev pub has_unchanged : Bool
  has_unchanged = list_any (has_none old.changes.now.made) objects

  these : beginning prefix (cut_if c entries) ≡ cut_if (cuts_for old) (map cached_entry objects)
  these = beginning_if c prefix entries alike ∙ (λ i. cut_if (sym at i) (of.are i))

  -- A reader that was told all of them has passed over each.
  pub none_of_told : (new : ChangedReader X) → IsTold old new (beginning prefix (cut_if c entries)) → false ≡ has_unchanged
  none_of_told new told =
      let Can : List Entry → Type 0 = λ es. AreCuttable es in
      let Changed : List Entry → Type 0 = λ es. AreChanged (cuts_for old) old.changes.now.made es in
      sym (all_changed old.changes.now.made (cuts_for old) objects of.storable (subst Can of.are (can_begin prefix entries can)) (subst Changed these told.changed))

  -- One that refused one of them has found an object that has no change.
  pub one_of_refused : IsRefused IsTold Refuses old (beginning prefix (cut_if c entries)) → true ≡ has_unchanged
  one_of_refused refused =
      sym (one_unchanged old.changes.now.made (cuts_for old) objects of.storable refused.before refused.entry refused.after (sym these ∙ refused.are) unchanged)
    where
      now : ChangedReader X
      now = refused.reader

      unchanged : IsUnchanged (cuts_for old) old.changes.now.made refused.entry.0
      unchanged =
          let In : Format → Changes X → Type 0 = λ format changes. IsUnchanged (has_chunks format) changes.made refused.entry.0 in
          subst (λ (format : Format). In format old.changes.now) refused.was_told.format
          (subst (λ (changes : Changes X). In now.format changes) refused.was_told.changes refused.refused)

-- What is answered of the entries of a namespace is answered of its objects.
pub found_of : {X E : Type 0} (result : Result Bool E) (resource : Resource) (namespace : List ℕ) (changes : List (Key × Option X)) (objects : List (Key × CachedObject))
    → IfOk result (λ b. b ≡ list_any (has_none changes) (filter (λ o. is_of resource (Some namespace) o.0) objects))
    → IfOk result (λ b. b ≡ list_any (λ o. is_unchanged resource namespace changes o.0) objects)
found_of (Err e) resource namespace changes objects is = tt
found_of (Ok b) resource namespace changes objects is = is ∙ sym (any_filter (λ o. is_of resource (Some namespace) o.0) (has_none changes) objects)

-- Where a namespace has no objects, none has no change.
pub none_found : {X : Type 0} (resource : Resource) (namespace : List ℕ) (changes : List (Key × Option X)) (objects : List (Key × CachedObject))
    → filter (λ o. is_of resource (Some namespace) o.0) objects ≡ [] → false ≡ list_any (λ o. is_unchanged resource namespace changes o.0) objects
none_found resource namespace changes objects none =
    sym (any_filter (λ o. is_of resource (Some namespace) o.0) (has_none changes) objects ∙ ap (λ (os : List (Key × CachedObject)). list_any (has_none changes) os) none)

-- ---- of what lies below

module _ {P X : Type 0} (made : Document → P) (held : Resource → Bool) (resource : Resource) (namespace : List ℕ) (changes : List (Key × Option X)) (all : List (Key × CachedObject)) where
  abbrev lying : List (Key × Stored P)
  lying = map (whole made) (not_held held all)

  abbrev of : {Y : Type 0} → Key × Y → Bool
  of o = is_of resource (Some namespace) o.0

  abbrev free : {Y : Type 0} → Key × Y → Bool
  free o = not (is_some (value_at o.0 changes))

  -- What the pages have of a resource that is not held is what lies below of it,
  pub any_lying : held resource ≡ false → list_any (λ o. is_unchanged resource namespace changes o.0) all ≡ list_any (λ o. is_unchanged resource namespace changes o.0) lying
  any_lying shown =
      any_filter (λ o. of o) (λ o. free o) all
      ∙ sym (any_map (whole made) (λ o. free o) (filter (λ o. of o) all))
      ∙ ap (list_any (λ o. free o)) (listed_lying made held resource (Some namespace) all shown)
      ∙ sym (any_filter (λ o. of o) (λ o. free o) lying)

  -- and of a held resource nothing lies there.
  pub none_lying : held resource ≡ true → false ≡ list_any (λ o. is_unchanged resource namespace changes o.0) lying
  none_lying hidden =
      sym (any_filter (λ o. of o) (λ o. free o) lying ∙ ap (list_any (λ o. free o)) (none_listed made held resource (Some namespace) all hidden))
