-- What is read from the front of entries is what stands there.
use Rattle.std.proofs.Common.{arith, ◌≡◌, ◌∙◌, sym, ap, subst, refl, ◌<◌, ◌≤◌, ◌+◌, ◌-◌, ◌^◌, ℕ, zero, suc, true, List, [], ◌∷◌, ◌++◌, map, take, drop, get_or, length}
use Rattle.std.proofs.lemmas.Grind.{div_ceil_times}
use Rattle.std.proofs.lemmas.List.{take-append-drop, drop_more, length-take-le, append_assoc, append-nil, take_rest}
use Rattle.std.proofs.lemmas.List.FromFn.{length-map-range_with_len}
use Rattle.std.specs.Int.{div_ceil}
use Rattle.std.specs.List.{AllByRecursion, range_with_len}
use Rattle.std.specs.FinMap.{is_sorted}
use Rattle.std.specs.FinMap.Entries.{below_all}
use Rattle.std.proofs.lemmas.Bool.{and_parts}
use Rattle.byteorder.specs.Endian.{big_bytes}
use Rattle.names.specs.declared.format.Rules.{Rules}
use Rattle.names.specs.Key.{Key, key_bytes, key_cmp}
use Rattle.window.specs.declared.event.Event.{Event}
use Rattle.documents.specs.Document.{Document}
use Rattle.histories.specs.declared.stored.Stored.{Stored}
use Rattle.histories.specs.View.{View}
use Rattle.pages.specs.Page.{Entry}
use Rattle.records.specs.declared.object.StoredObject.{StoredObject}
use Rattle.requests.specs.Codes.{document_in}
use Rattle.records.specs.Entries.{stored_entry, plan_entry, plan_entries, plans_among, event_entry, entries_of}
use Rattle.records.specs.EntryLaws.{bytes_beside}
use Rattle.records.specs.Holding.{IsStorableEvent, CanHoldObject, CanHoldEvent, HasFewPlans, IsHoldable}
use Rattle.records.specs.Reading.{entry_read, IsStorableStored, IsReadObject, BeginsOtherwise, BeginsWithout, AreAbove, ArePlans, AreFollowed}
use Rattle.records.proofs.One.{one_object, one_event}
use Rattle.records.proofs.Views.{above}
use Rattle.records.proofs.Pieces.{one_plans, cut_pieces, more_pieces}
use Rattle.objects.proofs.Each.{one_each}

-- an entry in front of those after it
pub at_index : (es : List Entry) (i : ℕ) (x : Entry) → i < length es → x ≡ get_or es i x → es ≡ take i es ++ x ∷ drop (i + 1) es
at_index es i x inside is = sym (take-append-drop i es) ∙ ap (λ (r : List Entry). take i es ++ r) (drop_more es i x inside ∙ ap (λ (y : Entry). y ∷ drop (i + 1) es) (sym is))

-- After objects that were read, an entry whose key begins with 1 is an object's, where objects stand in front of what begins otherwise.
pub next_object : (xs : List StoredObject) (x : Entry) (more : List Entry) (os : List (Key × Stored (List ℕ))) (rest : List Entry) (bytes : List ℕ)
    → x.0 ≡ 1 ∷ bytes → AllByRecursion IsStorableStored os → BeginsOtherwise rest → map stored_entry os ++ rest ≡ map entry_read xs ++ x ∷ more
    → (o : Key × Stored (List ℕ)) × IsStorableStored o × (stored_entry o ≡ x)
next_object [] x more [] [] bytes key can other same = cc
next_object [] x more [] (e ∷ rest) bytes key can other same =
    let head : e ≡ x = cc in
    absurd (other bytes (ap (λ (y : Entry). y.0) head ∙ key))
next_object [] x more (o ∷ os) rest bytes key can other same =
    let head : stored_entry o ≡ x = cc in
    (o, can.0, head)
next_object (y ∷ xs) x more [] [] bytes key can other same = cc
next_object (y ∷ xs) x more [] (e ∷ rest) bytes key can other same =
    let head : e ≡ entry_read y = cc in
    absurd (other (key_bytes y.manifest.key) (ap (λ (z : Entry). z.0) head))
next_object (y ∷ xs) x more (o ∷ os) rest bytes key can other same =
    let behind : map stored_entry os ++ rest ≡ map entry_read xs ++ x ∷ more = cc in
    next_object xs x more os rest bytes key can.1 other behind

-- ---- plans

-- 2 ^ 30 bytes have no more than 65536 pieces
few_pieces : (bytes : List ℕ) → length bytes ≤ 2 ^ 30 → div_ceil (length bytes) 16384 ≤ 65536
few_pieces bytes small = omega (arith, small, (div_ceil_times (length bytes) 16384 (omega arith)).1)

-- and no more bytes stand in this many
pub few_bytes : (bytes : List ℕ) → div_ceil (length bytes) 16384 ≤ 65536 → length bytes ≤ 2 ^ 30
few_bytes bytes few = omega (arith, few, (div_ceil_times (length bytes) 16384 (omega arith)).0)

pub count_pieces : (k : Key) (bytes : List ℕ) → length (plan_entries k bytes) ≡ div_ceil (length bytes) 16384
count_pieces k bytes = length-map-range_with_len (plan_entry k bytes) 0 (div_ceil (length bytes) 16384)

module _ (k : Key) (all : List Entry) (i : ℕ) (old plans : List ℕ) (rest : List Entry)
    (read : plan_entries k old ≡ take i all) (inside : i ≤ length all) (above : AreAbove k rest) (same : plan_entries k plans ++ rest ≡ all) where
  counted : div_ceil (length old) 16384 ≡ i
  counted = sym (count_pieces k old) ∙ ap length read ∙ length-take-le i all inside

  counted_from : 0 + div_ceil (length old) 16384 ≡ i
  counted_from = omega (arith, counted)

  parts : plan_entries k old ++ drop i all ≡ plan_entries k plans ++ rest
  parts = ap (λ (front : List Entry). front ++ drop i all) read ∙ take-append-drop i all ∙ sym same

  -- The plans end where the next piece does not stand.
  pub plans_end : length plans ≤ 2 ^ 30 → BeginsWithout k i (drop i all) → (old ≡ plans) × (drop i all ≡ rest)
  plans_end small without =
      let ends : BeginsWithout k (0 + div_ceil (length old) 16384) (drop i all) = subst (λ (n : ℕ). BeginsWithout k n (drop i all)) (sym counted_from) without in
      let found =
      cut_pieces k old plans 0 (div_ceil (length old) 16384) (div_ceil (length plans) 16384) (drop i all) rest (omega (arith, few_pieces plans small)) ends above parts
      in
      (one_plans k old plans found.0, found.1)

  -- They go on where it stands.
  pub plans_go_on : (x : Entry) → i < length all → x ≡ get_or all i x → x.0 ≡ (plan_entry k [] i).0
      → (more : List Entry) × (plan_entries k plans ≡ plan_entries k old ++ x ∷ more)
  plans_go_on x within is key =
      let next : x.0 ≡ (plan_entry k [] (0 + div_ceil (length old) 16384)).0 = key ∙ ap (λ (n : ℕ). (plan_entry k [] n).0) (sym counted_from) in
      let behind : drop i all ≡ x ∷ drop (i + 1) all = drop_more all i x within ∙ ap (λ (y : Entry). y ∷ drop (i + 1) all) (sym is) in
      more_pieces k old plans 0 (div_ceil (length old) 16384) (div_ceil (length plans) 16384) x (drop (i + 1) all) rest next above
      (ap (λ (back : List Entry). plan_entries k old ++ back) (sym behind) ∙ parts)

-- ---- events

-- Of events that have these entries, one has the entry at an index.
pub event_at_index : (es : List (Event Document)) (all : List Entry) (i : ℕ) (x : Entry) → AllByRecursion IsStorableEvent es → map event_entry es ≡ all
    → i < length all → x ≡ get_or all i x → (e : Event Document) × IsStorableEvent e × (event_entry e ≡ x)
event_at_index [] [] i x can same within is = absurd (omega (arith, within))
event_at_index [] (y ∷ all) i x can same within is = cc
event_at_index (e ∷ es) [] i x can same within is = cc
event_at_index (e ∷ es) (y ∷ all) zero x can same within is =
    let head : event_entry e ≡ y = cc in
    (e, can.0, head ∙ sym is)
event_at_index (e ∷ es) (y ∷ all) (suc i) x can same within is =
    let others : map event_entry es ≡ all = cc in
    event_at_index es all i x can.1 others (omega (arith, within)) is

-- ---- objects with their plans

abbrev pub Kept : Type 0
Kept = Key × Stored (List ℕ)

-- The first of the objects that are left is the one that was read, with plans that may follow.
pub record First (more : List Kept) (rest : List Entry) (o : StoredObject) (next : List StoredObject) (entries : List Entry) : Type 0 where
  pub first : Kept
  pub others : List Kept
  pub parts : more ≡ first ∷ others
  pub key : first.0 ≡ o.manifest.key
  pub document : first.1.document ≡ document_in o.manifest.body
  pub revision : first.1.revision ≡ o.revision
  pub plans : ArePlans first.0 first.1.beside (plans_among bytes_beside others ++ rest)
  pub followed : AreFollowed others rest
  pub read : map stored_entry others ≡ map entry_read next
  pub stand : plan_entries first.0 first.1.beside ++ (plans_among bytes_beside others ++ rest) ≡ entries

pub first_left : (more : List Kept) (rest : List Entry) (o : StoredObject) (next : List StoredObject) (entries : List Entry) → IsReadObject o → AreFollowed more rest
    → map stored_entry more ≡ entry_read o ∷ map entry_read next → plans_among bytes_beside more ++ rest ≡ entries → First more rest o next entries
first_left [] rest o next entries can followed same planned = cc
first_left (m ∷ ms) rest o next entries can followed same planned =
    let head : stored_entry m ≡ entry_read o = cc in
    let others : map stored_entry ms ≡ map entry_read next = cc in
    let one = one_object m.0 o.manifest.key m.1.document (document_in o.manifest.body) m.1.revision o.revision followed.0 can head in
    record {
      first = m;
      others = ms;
      parts = refl;
      key = one.0;
      document = one.1;
      revision = one.2;
      plans = followed.1;
      followed = followed.2;
      read = others;
      stand = sym (append_assoc (plan_entries m.0 m.1.beside) (plans_among bytes_beside ms) rest) ∙ planned;
    }

pub plans_push : (xs : List Kept) (x : Kept) → plans_among bytes_beside (xs ++ x ∷ []) ≡ plans_among bytes_beside xs ++ plan_entries x.0 x.1.beside
plans_push [] x = append-nil (plan_entries x.0 x.1.beside)
plans_push (y ∷ xs) x =
    ap (λ (es : List Entry). plan_entries y.0 y.1.beside ++ es) (plans_push xs x)
    ∙ sym (append_assoc (plan_entries y.0 y.1.beside) (plans_among bytes_beside xs) (plan_entries x.0 x.1.beside))

-- ---- a view

-- The objects of a view stand in front of what begins otherwise, and so do those that were read.
pub split_read : (xs : List Kept) (ys : List StoredObject) (a b : List Entry) → BeginsOtherwise a → BeginsOtherwise b → map stored_entry xs ++ a ≡ map entry_read ys ++ b
    → (map stored_entry xs ≡ map entry_read ys) × (a ≡ b)
split_read [] [] a b first second same = (refl, same)
split_read [] (y ∷ ys) [] b first second same = cc
split_read [] (y ∷ ys) (e ∷ a) b first second same =
    let head : e ≡ entry_read y = cc in
    absurd (first (key_bytes y.manifest.key) (ap (λ (z : Entry). z.0) head))
split_read (x ∷ xs) [] a [] first second same = cc
split_read (x ∷ xs) [] a (e ∷ b) first second same =
    let head : stored_entry x ≡ e = cc in
    absurd (second (key_bytes x.0) (ap (λ (z : Entry). z.0) (sym head)))
split_read (x ∷ xs) (y ∷ ys) a b first second same =
    let head : stored_entry x ≡ entry_read y = cc in
    let rest : map stored_entry xs ++ a ≡ map entry_read ys ++ b = cc in
    let parts = split_read xs ys a b first second rest in
    (λ i. head i ∷ parts.0 i, parts.1)

other_mark : (mark : ℕ) (bytes rest : List ℕ) → (suc (suc mark)) ∷ bytes ≡ 1 ∷ rest → ⊥
other_mark mark bytes rest same =
    let number : ◌≡◌ {A = ℕ} (suc (suc mark)) 1 = cc in
    absurd (omega (arith, number))

events_otherwise : (es : List (Event Document)) → BeginsOtherwise (map event_entry es)
events_otherwise [] = tt
events_otherwise (e ∷ es) = λ rest. other_mark 1 (big_bytes 8 e.revision) rest

pub plans_otherwise : (os : List Kept) (es : List (Event Document)) → BeginsOtherwise (plans_among bytes_beside os ++ map event_entry es)
plans_otherwise [] es = events_otherwise es
plans_otherwise (o ∷ os) es =
    elim (div_ceil (length o.1.beside) 16384)
    as (λ n. BeginsOtherwise ((map (plan_entry o.0 o.1.beside) (range_with_len 0 n) ++ plans_among bytes_beside os) ++ map event_entry es)) [
      | zero ↦ plans_otherwise os es
      | suc n ↦ λ rest. other_mark 0 (o.0.name ++ 0 ∷ big_bytes 2 0) rest
    ]

module _ (rules : Rules) where
  pub all_stored : (os : List Kept) → AllByRecursion (CanHoldObject rules) os → AllByRecursion IsStorableStored os
  all_stored [] can = tt
  all_stored (o ∷ os) can = (can.0.0, all_stored os can.1)

  pub all_events : (es : List (Event Document)) → AllByRecursion (CanHoldEvent rules) es → AllByRecursion IsStorableEvent es
  all_events [] can = tt
  all_events (e ∷ es) can = (can.0.0, all_events es can.1)

  pub all_followed : (os : List Kept) (es : List (Event Document)) → AllByRecursion (CanHoldObject rules) os → AllByRecursion (HasFewPlans bytes_beside) os
      → is_sorted key_cmp os ≡ true → AreFollowed os (map event_entry es)
  all_followed [] es can few sorted = tt
  all_followed (o ∷ os) es can few sorted =
      let ups = and_parts (below_all key_cmp o.0 os) (is_sorted key_cmp os) sorted in
      (can.0.0, (few.0.1, λ policy. above bytes_beside rules o.0 os es can.0.0.0.key policy can.1 few.1 ups.0, few.0.0), all_followed os es can.1 few.1 ups.1)

pub one_events : (es fs : List (Event Document)) → AllByRecursion IsStorableEvent es → AllByRecursion IsStorableEvent fs → map event_entry es ≡ map event_entry fs → es ≡ fs
one_events es fs a b same = one_each IsStorableEvent event_entry one_event es fs a b same

module _ (rules : Rules) (v : View (List ℕ)) (holds : IsHoldable bytes_beside rules v) (all : List Entry) (same : entries_of bytes_beside v ≡ all)
    (read : List StoredObject) (n : ℕ) (len : n ≡ length read) (is : map entry_read read ++ drop (length read) all ≡ all) (stops : BeginsOtherwise (drop (length read) all)) where
  -- The objects that were read are those of the view, and after them stand its plans and its events.
  pub view_split : (map stored_entry v.objects ≡ map entry_read read)
      × (plans_among bytes_beside v.objects ++ map event_entry v.events ≡ take (length all - n) (drop n all))
  view_split =
      let parts = split_read v.objects read (plans_among bytes_beside v.objects ++ map event_entry v.events) (drop (length read) all)
      (plans_otherwise v.objects v.events) stops (same ∙ sym is) in
      (parts.0, parts.1 ∙ ap (λ (m : ℕ). drop m all) (sym len) ∙ sym (take_rest all n))
