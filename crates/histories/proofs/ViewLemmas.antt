-- What is seen of longer histories.
use Rattle.std.proofs.Common.{◌≡◌, ℕ, suc, ◌+◌, ◌-◌, ◌≤◌, List, [], ◌∷◌, ◌++◌, length, drop, Bool, true, false, not, cond, Option, None, refl, sym, ap, ◌∙◌, arith, append_assoc, length-drop, nat_lt}
use Rattle.std.proofs.Common.{Equal, is_eq, append-nil, IsTrue}
use Rattle.std.proofs.Common.{Ordering, Less, Greater}
use Rattle.std.specs.Ordering.{ordering_reverse}
use Rattle.std.proofs.lemmas.Cmp.{alike_right, tied_back}
use Rattle.std.specs.FinMap.{is_sorted}
use Rattle.std.specs.FinMap.Entries.{find-put, find-where_key}
use Rattle.objects.proofs.Edits.{sorted-with_value, sorted-without_key}
use Rattle.circular_buffer.specs.Buffer.{keep_last}
use Rattle.window.specs.declared.event.Event.{Event}
use Rattle.window.specs.Window.{AreNumberedFrom, events_above}
use Rattle.window.proofs.Numbered.{events_above-numbered}
use Rattle.window.proofs.Kept.{keep_last-append}
use Rattle.names.specs.declared.format.Rules.{Rules}
use Rattle.names.specs.Key.{Key, key_cmp}
use Rattle.names.specs.KeyLaws.{key_cmp_total}
use Rattle.documents.specs.Document.{Document}
use Rattle.histories.specs.History.{Write, put, delete, same_key, left_by_one, left_by}
use Rattle.histories.specs.View.{View, stored_at, after, after_all, event_of, empty, view, AllMayFollow}
use Rattle.histories.specs.Events.{events_from}

-- writes after writes
pub after_all-append : {P : Type 0} (rules : Rules) (v : View P) (ws us : List (Write P)) → after_all rules v (ws ++ us) ≡ after_all rules (after_all rules v ws) us
after_all-append rules v [] us = refl
after_all-append rules v (w ∷ ws) us = after_all-append rules (after rules v w) ws us

pub revision-after_all : {P : Type 0} (rules : Rules) (v : View P) (ws : List (Write P)) → (after_all rules v ws).revision ≡ v.revision + length ws
revision-after_all rules v [] = omega arith
revision-after_all rules v (w ∷ ws) = let e = revision-after_all rules (after rules v w) ws in omega (arith, e)

-- ---- the last write to a key

kept_or_none : {A : Type 0} (b : Bool) (x : Option A) → cond (not b) x None ≡ cond b None x
kept_or_none true x = refl
kept_or_none false x = refl

turned : (o : Ordering) → is_eq (ordering_reverse o) ≡ is_eq o
turned Less = refl
turned Equal = refl
turned Greater = refl

same_key-comm : (a b : Key) → same_key a b ≡ same_key b a
same_key-comm a b = ap is_eq (key_cmp_total.antisymm a b) ∙ turned (key_cmp b a)

stored_at-after : {P : Type 0} (rules : Rules) (v : View P) (w : Write P) (k : Key) → stored_at (after rules v w) k ≡ left_by_one k (v.revision + 1) w (stored_at v k)
stored_at-after rules v (put key d b) k = find-put key_cmp key_cmp_total k key (record { document = d; beside = b; revision = v.revision + 1 }) v.objects
stored_at-after rules v (delete key) k =
    find-where_key key_cmp (λ x. not (same_key key x)) k (λ x tied. ap (λ o. not (is_eq o)) (alike_right key_cmp_total x k key (tied_back key_cmp_total k x tied)))
    v.objects
    ∙ ap (λ b. cond (not b) (stored_at v k) None) (same_key-comm key k)
    ∙ kept_or_none (same_key k key) (stored_at v k)

pub stored_at-after_all : {P : Type 0} (rules : Rules) (v : View P) (ws : List (Write P)) (k : Key) → stored_at (after_all rules v ws) k ≡ left_by k (v.revision + 1) ws (stored_at v k)
stored_at-after_all rules v [] k = refl
stored_at-after_all rules v (w ∷ ws) k =
    stored_at-after_all rules (after rules v w) ws k ∙ ap (left_by k (v.revision + 1 + 1) ws) (stored_at-after rules v w k)

-- ---- the last events

pub keep_last-short : {A : Type 0} (n : ℕ) (xs : List A) → length xs ≤ n → keep_last n xs ≡ xs
keep_last-short n xs short = let none : length xs - n ≡ 0 = omega arith in rw none

length-keep_last : {A : Type 0} (n : ℕ) (xs : List A) → length (keep_last n xs) ≤ n
length-keep_last n xs = omega (arith, length-drop (length xs - n) xs)

events_above-cons : (f : ℕ) (e : Event Document) (es : List (Event Document)) → events_above f (e ∷ es) ≡ events_above f (e ∷ []) ++ events_above f es
events_above-cons f e es = elim (nat_lt f e.revision) as (λ b. cond b (e ∷ events_above f es) (events_above f es) ≡ cond b (e ∷ []) [] ++ events_above f es) [
  | true ↦ refl
  | false ↦ refl
]

pub events-after_all : {P : Type 0} (rules : Rules) (v : View P) (ws : List (Write P)) → length v.events ≤ rules.window_events
    → (after_all rules v ws).events ≡ keep_last rules.window_events (v.events ++ events_above rules.floor (events_from rules v ws))
events-after_all rules v [] short = rw append-nil (sym (keep_last-short rules.window_events v.events short))
events-after_all rules v (w ∷ ws) short =
    let n : ℕ = rules.window_events in
    let one : List (Event Document) = events_above rules.floor (event_of v w ∷ []) in
    let later : List (Event Document) = events_from rules (after rules v w) ws in
    let rest : List (Event Document) = events_above rules.floor later in
    let joined : one ++ rest ≡ events_above rules.floor (event_of v w ∷ later) = sym (events_above-cons rules.floor (event_of v w) later) in
    events-after_all rules (after rules v w) ws (length-keep_last n (v.events ++ one))
    ∙ keep_last-append n (v.events ++ one) rest
    ∙ ap (keep_last n) (append_assoc v.events one rest ∙ ap (λ (es : List (Event Document)). v.events ++ es) joined)

numbered_event : {P : Type 0} (v : View P) (w : Write P) → (event_of v w).revision ≡ v.revision + 1
numbered_event v (put k d b) = refl
numbered_event v (delete k) = refl

-- the events that writes make are numbered, and one for each
numbered_events : {P : Type 0} (rules : Rules) (v : View P) (ws : List (Write P)) → AreNumberedFrom v.revision (events_from rules v ws)
numbered_events rules v [] = tt
numbered_events rules v (w ∷ ws) = (numbered_event v w, numbered_events rules (after rules v w) ws)

pub counted_events : {P : Type 0} (rules : Rules) (v : View P) (ws : List (Write P)) → length (events_from rules v ws) ≡ length ws
counted_events rules v [] = refl
counted_events rules v (w ∷ ws) = ap (λ n. suc n) (counted_events rules (after rules v w) ws)

-- the events of a history are the last of those whose numbers the floor leaves
pub events-numbered : {P : Type 0} (rules : Rules) (h : List (Write P))
    → (view rules h).events ≡ keep_last rules.window_events (drop (rules.floor - 1) (events_from rules empty h))
events-numbered rules h =
    events-after_all rules empty h (omega arith)
    ∙ ap (keep_last rules.window_events) (events_above-numbered rules.floor 1 (events_from rules empty h) (numbered_events rules empty h))

-- ---- what may follow

pub AllMayFollow-append : {P : Type 0} (rules : Rules) (v : View P) (ws us : List (Write P)) → AllMayFollow rules v ws → AllMayFollow rules (after_all rules v ws) us
    → AllMayFollow rules v (ws ++ us)
AllMayFollow-append rules v [] us first more = more
AllMayFollow-append rules v (w ∷ ws) us first more = (first.0, AllMayFollow-append rules (after rules v w) ws us first.1 more)

-- ---- the order of objects

ascend_after : {P : Type 0} (rules : Rules) (v : View P) (w : Write P) → IsTrue (is_sorted key_cmp v.objects) → IsTrue (is_sorted key_cmp (after rules v w).objects)
ascend_after rules v (put k d b) sorted = sorted-with_value v.objects k sorted _
ascend_after rules v (delete k) sorted = sorted-without_key v.objects k sorted

-- the keys of a view strictly rise
pub objects_ascend : {P : Type 0} (rules : Rules) (v : View P) (ws : List (Write P)) → IsTrue (is_sorted key_cmp v.objects)
    → IsTrue (is_sorted key_cmp (after_all rules v ws).objects)
objects_ascend rules v [] sorted = sorted
objects_ascend rules v (w ∷ ws) sorted = objects_ascend rules (after rules v w) ws (ascend_after rules v w sorted)
