-- The entries of a view, as a format that cuts has them.
use Rattle.std.proofs.Common.{arith, ◌≡◌, ◌∙◌, refl, inl, inr, ◌≤◌, ◌+◌, ◌*◌, ◌^◌, ℕ, zero, suc, List, [], ◌∷◌, ◌++◌, map, drop, length, IsTrue}
use Rattle.std.proofs.lemmas.List.{length-append, length-take}
use Rattle.std.specs.FinMap.{is_sorted}
use Rattle.std.specs.Int.{div_ceil}
use Rattle.std.specs.List.{AllByRecursion, range_with_len}
use Rattle.byteorder.specs.Endian.{big_bytes}
use Rattle.byteorder.specs.Numbers.{length-bytes_high_first}
use Rattle.fields.specs.Field.{field}
use Rattle.jsondoc.specs.Json.{text}
use Rattle.names.specs.declared.format.Rules.{Rules}
use Rattle.names.specs.declared.resource.Resource.{Resource}
use Rattle.names.specs.declared.resource.Resource.TheVariants.{ConfigMap, Node, Pod, Service, Deployment, ValidatingAdmissionPolicy, ValidatingAdmissionPolicyBinding, Namespace}
use Rattle.names.specs.Key.{Key, is_key, key_bytes}
use Rattle.names.specs.KeyParts.{IsPlain}
use Rattle.names.specs.Resource.{row}
use Rattle.names.proofs.KeyOrder.{IsPlain-namespace, IsPlain-name}
use Rattle.window.specs.declared.event.Event.{Event}
use Rattle.documents.specs.Document.{Document}
use Rattle.histories.specs.declared.stored.Stored.{Stored}
use Rattle.histories.specs.View.{View}
use Rattle.pages.specs.Page.{Entry, bytes_cmp}
use Rattle.records.specs.Entries.{object_entry, plan_entry, plan_entries, event_entry, stored_entry, plans_among, entries_of, change_number}
use Rattle.records.specs.Holding.{CanHoldObject, CanHoldEvent, IsHoldable}
use Rattle.records.proofs.Keys.{key_bytes-short}
use Rattle.records.proofs.Ascending as ascending
use Rattle.chunks.specs.Chunks.{cuts, IsCuttable, AreCuttable}
use Rattle.chunks.proofs.Ascending.{zeros, zeros-append, HavePlaces, cuts_ascend}
use Rattle.chunks.proofs.Fitting.{Fits, FitsCut, cuts_fit}

-- ---- one entry: that it can be cut, and that what it is cut to fits a page

abbrev pub IsChunked : Entry → Type 0
IsChunked e = IsCuttable e × FitsCut e

plain_zeros : (xs : List ℕ) → IsPlain xs → zeros xs ≡ 0
plain_zeros [] plain = refl
plain_zeros (zero ∷ xs) plain = absurd (omega (arith, plain.0))
plain_zeros (suc x ∷ xs) plain = plain_zeros xs plain.2

numbered : (r : Resource) (xs : List ℕ) → zeros ((row r).number ∷ xs) ≡ zeros xs
numbered ConfigMap xs = refl
numbered Node xs = refl
numbered Pod xs = refl
numbered Service xs = refl
numbered Deployment xs = refl
numbered ValidatingAdmissionPolicy xs = refl
numbered ValidatingAdmissionPolicyBinding xs = refl
numbered Namespace xs = refl

one_zero : (k : Key) → IsTrue (is_key k) → zeros (key_bytes k) ≡ 1
one_zero k is =
    numbered k.resource (k.namespace ++ 0 ∷ k.name)
    ∙ omega (arith, zeros-append k.namespace (0 ∷ k.name), plain_zeros k.namespace (IsPlain-namespace k is), plain_zeros k.name (IsPlain-name k is))

-- ---- where the keys of a view's entries stand

placed_append : (xs ys : List Entry) → HavePlaces xs → HavePlaces ys → HavePlaces (xs ++ ys)
placed_append [] ys a b = b
placed_append (x ∷ xs) ys a b = (a.0, placed_append xs ys a.1 b)

placed_pieces : (k : Key) (bytes : List ℕ) (from count : ℕ) → HavePlaces (map (plan_entry k bytes) (range_with_len from count))
placed_pieces k bytes from zero = tt
placed_pieces k bytes from (suc count) = (inr (inl (k.name ++ 0 ∷ big_bytes 2 from, refl)), placed_pieces k bytes (from + 1) count)

placed_events : (es : List (Event Document)) → HavePlaces (map event_entry es)
placed_events [] = tt
placed_events (e ∷ es) = (inr (inr (big_bytes 8 e.revision, refl, length-bytes_high_first 8 e.revision)), placed_events es)

module _ {P : Type 0} (plans : Key × Stored P → List ℕ) (rules : Rules) where
  placed_objects : (os : List (Key × Stored P)) → AllByRecursion (CanHoldObject rules) os → HavePlaces (map stored_entry os)
  placed_objects [] can = tt
  placed_objects (o ∷ os) can = (inl (key_bytes o.0, refl, one_zero o.0 can.0.0.0.key), placed_objects os can.1)

  placed_plans : (os : List (Key × Stored P)) → HavePlaces (plans_among plans os)
  placed_plans [] = tt
  placed_plans (o ∷ os) = placed_append (plan_entries o.0 (plans o)) (plans_among plans os) (placed_pieces o.0 (plans o) 0 (div_ceil (length (plans o)) 16384)) (placed_plans os)

  have_places : (v : View P) → IsHoldable plans rules v → HavePlaces (entries_of plans v)
  have_places v can =
      placed_append (map stored_entry v.objects) (plans_among plans v.objects ++ map event_entry v.events) (placed_objects v.objects can.objects)
      (placed_append (plans_among plans v.objects) (map event_entry v.events) (placed_plans v.objects) (placed_events v.events))

  -- The entries of a view ascend cut, where they can be cut.
  pub cut_ascend : (v : View P) → AreCuttable (entries_of plans v) → IsHoldable plans rules v → IsTrue (is_sorted bytes_cmp (cuts (entries_of plans v)))
  cut_ascend v cuttable can = cuts_ascend (entries_of plans v) cuttable (have_places v can) (ascending.entries_ascend plans rules v can)

module _ (rules : Rules) (limit : rules.text_limit_bytes ≤ 2 ^ 24) where
  object_chunked : (k : Key) (d : Document) (n : ℕ) → IsTrue (is_key k) → length (text d.json) ≤ 2 ^ 24 → IsChunked (object_entry k d n)
  object_chunked k d n is short =
      let cell : length (big_bytes 8 n ++ text d.json) ≡ length (big_bytes 8 n) + length (text d.json) = length-append (big_bytes 8 n) (text d.json) in
      let eight : length (big_bytes 8 n) ≡ 8 = length-bytes_high_first 8 n in (
        (omega (arith, cell, eight), omega (arith, cell, eight, short)),
        (omega (arith, key_bytes-short k is), λ never. cc),
      )

  event_chunked : (e : Event Document) → IsTrue (is_key e.key) → length (text e.document.json) ≤ 2 ^ 24 → IsChunked (event_entry e)
  event_chunked e is short =
      let size : List ℕ = big_bytes 2 (length (key_bytes e.key)) in
      let told : length (field 2 (key_bytes e.key)) ≡ length size + length (key_bytes e.key) = length-append size (key_bytes e.key) in
      let cell : length ((change_number e.change ∷ field 2 (key_bytes e.key)) ++ text e.document.json)
      ≡ length (change_number e.change ∷ field 2 (key_bytes e.key)) + length (text e.document.json) =
      length-append (change_number e.change ∷ field 2 (key_bytes e.key)) (text e.document.json) in
      let two : length size ≡ 2 = length-bytes_high_first 2 (length (key_bytes e.key)) in
      let eight : length (big_bytes 8 e.revision) ≡ 8 = length-bytes_high_first 8 e.revision in (
        (omega (arith, cell), omega (arith, cell, told, two, short, key_bytes-short e.key is)),
        (omega (arith, eight), λ never. cc),
      )

  piece_chunked : (k : Key) (bytes : List ℕ) (n : ℕ) → IsTrue (is_key k) → IsChunked (plan_entry k bytes n)
  piece_chunked k bytes n is =
      let name : length (k.namespace ++ 0 ∷ k.name) ≡ length k.namespace + length (0 ∷ k.name) = length-append k.namespace (0 ∷ k.name) in
      let key : length ((2 ∷ k.name) ++ 0 ∷ big_bytes 2 n) ≡ length (2 ∷ k.name) + length (0 ∷ big_bytes 2 n) = length-append (2 ∷ k.name) (0 ∷ big_bytes 2 n) in
      let two : length (big_bytes 2 n) ≡ 2 = length-bytes_high_first 2 n in
      let short = key_bytes-short k is in (
        tt,
        (omega (arith, name, key, two, short), λ uncut. omega (arith, name, key, two, length-take 16384 (drop (16384 * n) bytes), short)),
      )

  all_append : (xs ys : List Entry) → AllByRecursion IsChunked xs → AllByRecursion IsChunked ys → AllByRecursion IsChunked (xs ++ ys)
  all_append [] ys a b = b
  all_append (x ∷ xs) ys a b = (a.0, all_append xs ys a.1 b)

  pieces_chunked : (k : Key) (bytes : List ℕ) (from count : ℕ) → IsTrue (is_key k) → AllByRecursion IsChunked (map (plan_entry k bytes) (range_with_len from count))
  pieces_chunked k bytes from zero is = tt
  pieces_chunked k bytes from (suc count) is = (piece_chunked k bytes from is, pieces_chunked k bytes (from + 1) count is)

  module _ {P : Type 0} (plans : Key × Stored P → List ℕ) where
    objects_chunked : (os : List (Key × Stored P)) → AllByRecursion (CanHoldObject rules) os → AllByRecursion IsChunked (map stored_entry os)
    objects_chunked [] can = tt
    objects_chunked (o ∷ os) can =
        (object_chunked o.0 o.1.document o.1.revision can.0.0.0.key (omega (arith, limit, can.0.1)), objects_chunked os can.1)

    plans_chunked : (os : List (Key × Stored P)) → AllByRecursion (CanHoldObject rules) os → AllByRecursion IsChunked (plans_among plans os)
    plans_chunked [] can = tt
    plans_chunked (o ∷ os) can =
        all_append (plan_entries o.0 (plans o)) (plans_among plans os)
        (pieces_chunked o.0 (plans o) 0 (div_ceil (length (plans o)) 16384) can.0.0.0.key) (plans_chunked os can.1)

    events_chunked : (es : List (Event Document)) → AllByRecursion (CanHoldEvent rules) es → AllByRecursion IsChunked (map event_entry es)
    events_chunked [] can = tt
    events_chunked (e ∷ es) can = (event_chunked e can.0.0.0.key (omega (arith, limit, can.0.1)), events_chunked es can.1)

    all_chunked : (v : View P) → IsHoldable plans rules v → AllByRecursion IsChunked (entries_of plans v)
    all_chunked v can =
        all_append (map stored_entry v.objects) (plans_among plans v.objects ++ map event_entry v.events) (objects_chunked v.objects can.objects)
        (all_append (plans_among plans v.objects) (map event_entry v.events) (plans_chunked v.objects can.objects) (events_chunked v.events can.events))

    cuttable : (es : List Entry) → AllByRecursion IsChunked es → AreCuttable es
    cuttable [] all = tt
    cuttable (e ∷ es) all = (all.0.0, cuttable es all.1)

    fitting : (es : List Entry) → AllByRecursion IsChunked es → AllByRecursion FitsCut es
    fitting [] all = tt
    fitting (e ∷ es) all = (all.0.1, fitting es all.1)

    -- The entries of a view can be cut.
    pub entries_cuttable : (v : View P) → IsHoldable plans rules v → AreCuttable (entries_of plans v)
    entries_cuttable v can = cuttable (entries_of plans v) (all_chunked v can)

    -- And what they are cut to fits a page.
    pub cut_fit : (v : View P) → IsHoldable plans rules v → AllByRecursion Fits (cuts (entries_of plans v))
    cut_fit v can = cuts_fit (entries_of plans v) (fitting (entries_of plans v) (all_chunked v can))
