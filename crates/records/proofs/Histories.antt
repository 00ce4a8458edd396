-- What a history shows can be held, and its events are numbered up to its revision.
use Rattle.std.proofs.Common.{arith, ◌≡◌, sym, subst, refl, nat_lt, ◌<◌, ◌^◌, ◌+◌, true, false, cond, not, ℕ, zero, suc, List, [], ◌∷◌, ◌++◌, drop, Some, is_some}
use Rattle.std.specs.FinMap.Entries.{by_order}
use Rattle.std.specs.List.{AllByRecursion}
use Rattle.std.specs.Option.{option_map_or}
use Rattle.std.specs.Ordering.{eq_by_cmp, is_eq}
use Rattle.std.specs.declared.cmp.Ordering.{Ordering}
use Rattle.std.specs.declared.cmp.Ordering.TheVariants.{Less, Equal, Greater}
use Rattle.serde_json.specs.Data.{null}
use Rattle.names.specs.declared.format.Rules.{Rules}
use Rattle.names.specs.Key.{Key, key_cmp}
use Rattle.names.proofs.KeyOrder.{key_cmp-IsAntisymmetric}
use Rattle.objects.specs.Objects.{value_at, with_value, without_key}
use Rattle.window.specs.declared.event.Event.{Event}
use Rattle.window.specs.Window.{events_above}
use Rattle.window.proofs.Numbered.{IsNumberedTo, AreTold, told_push}
use Rattle.documents.specs.Document.{Document}
use Rattle.documents.specs.Form.{HasForm}
use Rattle.histories.specs.declared.stored.Stored.{Stored}
use Rattle.histories.specs.History.{Write, put, delete}
use Rattle.histories.proofs.ViewLemmas.{objects_ascend}
use Rattle.histories.specs.View.{View, event_of, after, after_all, view, empty, MayFollow, AllMayFollow, AllFollow}
use Rattle.records.specs.Holding.{IsShort, CanHoldObject, CanHoldEvent, HasFewPlans, IsHoldable}

all-append : {A : Type 0} (Q : A → Type 0) (xs ys : List A) → AllByRecursion Q xs → AllByRecursion Q ys → AllByRecursion Q (xs ++ ys)
all-append Q [] ys a b = b
all-append Q (x ∷ xs) ys a b = (a.0, all-append Q xs ys a.1 b)

all-drop : {A : Type 0} (Q : A → Type 0) (n : ℕ) (xs : List A) → AllByRecursion Q xs → AllByRecursion Q (drop n xs)
all-drop Q zero xs a = a
all-drop Q (suc n) [] a = tt
all-drop Q (suc n) (x ∷ xs) a = all-drop Q n xs a.1

-- what holds of an event holds of what is told of it
all-told : (Q : Event Document → Type 0) (floor : ℕ) (e : Event Document) → Q e → AllByRecursion Q (events_above floor (e ∷ []))
all-told Q floor e holds = elim (nat_lt floor e.revision) as (λ b. AllByRecursion Q (cond b (e ∷ []) [])) [ true ↦ (holds, tt) | false ↦ tt ]

equal_from : (o : Ordering) → is_eq o ≡ true → o ≡ Equal
equal_from Less e = cc
equal_from Equal e = refl
equal_from Greater e = cc

-- ---- the events of a history

told_after : {P : Type 0} (rules : Rules) (v : View P) (w : Write P) → AreTold rules.floor v.revision v.events → AreTold rules.floor (after rules v w).revision (after rules v w).events
told_after rules v (put k d b) is = told_push rules.window_events rules.floor v.revision v.events (event_of v (put k d b)) is refl
told_after rules v (delete k) is = told_push rules.window_events rules.floor v.revision v.events (event_of v (delete k)) is refl

told_after_all : {P : Type 0} (rules : Rules) (v : View P) (ws : List (Write P)) → AreTold rules.floor v.revision v.events
    → AreTold rules.floor (after_all rules v ws).revision (after_all rules v ws).events
told_after_all rules v [] is = is
told_after_all rules v (w ∷ ws) is = told_after_all rules (after rules v w) ws (told_after rules v w is)

-- The events of a history have the revisions up to its own, one after another.
numbered : {P : Type 0} (rules : Rules) (h : List (Write P)) → IsNumberedTo (view rules h).revision (view rules h).events
numbered rules h =
    let all = told_after_all rules empty h (record { fewer = omega arith; numbered = tt; few = omega arith }) in
    record { fewer = all.fewer; numbered = all.numbered }

-- ---- what can be held

module _ {P : Type 0} (rules : Rules) where
  all-with_value : (k : Key) (s : Stored P) (os : List (Key × Stored P)) → CanHoldObject rules (k, s) → AllByRecursion (CanHoldObject rules) os
      → AllByRecursion (CanHoldObject rules) (with_value k s os)
  all-with_value k s [] new all = (new, tt)
  all-with_value k s (o ∷ os) new all =
      elim (key_cmp k o.0) as (λ r. key_cmp k o.0 ≡ r → AllByRecursion (CanHoldObject rules) (by_order r ((k, s) ∷ o ∷ os) ((o.0, s) ∷ os) (o ∷ with_value k s os))) [
        | Less ↦ λ is. (new, all)
        | Equal ↦ λ is. (let Here : Key → Type 0 = λ q. CanHoldObject rules (q, s) in subst Here (key_cmp-IsAntisymmetric k o.0 is) new, all.1)
        | Greater ↦ λ is. (all.0, all-with_value k s os new all.1)
      ] refl

  all-without_key : (k : Key) (os : List (Key × Stored P)) → AllByRecursion (CanHoldObject rules) os → AllByRecursion (CanHoldObject rules) (without_key k os)
  all-without_key k [] all = tt
  all-without_key k (o ∷ os) all =
      elim (not (eq_by_cmp key_cmp k o.0)) as (λ t. AllByRecursion (CanHoldObject rules) (cond t (o ∷ without_key k os) (without_key k os))) [
        | true ↦ (all.0, all-without_key k os all.1)
        | false ↦ all-without_key k os all.1
      ]

  -- the document that a deletion removes
  found : (k : Key) (os : List (Key × Stored P)) → AllByRecursion (CanHoldObject rules) os → is_some (value_at k os) ≡ true
      → let d = option_map_or (λ s. s.document) (value_at k os) (record { json = null }) in HasForm k d × IsShort rules d
  found k [] all some = cc
  found k (o ∷ os) all some =
      elim (is_eq (key_cmp k o.0)) as (λ t. is_eq (key_cmp k o.0) ≡ t → is_some (cond t (Some o.1) (value_at k os)) ≡ true
      → let d = option_map_or (λ s. s.document) (cond t (Some o.1) (value_at k os)) (record { json = null }) in HasForm k d × IsShort rules d) [
        | true ↦ λ is there. (let Form : Key → Type 0 = λ q. HasForm q o.1.document in subst Form (sym (key_cmp-IsAntisymmetric k o.0 (equal_from (key_cmp k o.0) is))) all.0.0.0, all.0.1)
        | false ↦ λ is there. found k os all.1 there
      ] refl some

  -- the objects and events can be held
  abbrev CanHold : View P → Type 0
  CanHold v = AllByRecursion (CanHoldObject rules) v.objects × AllByRecursion (CanHoldEvent rules) v.events

  module _ (limit : rules.greatest_revision < 2 ^ 64) where
    can_after : (v : View P) (w : Write P) → CanHold v → MayFollow rules v w → CanHold (after rules v w)
    can_after v (put k d b) can may = (
      all-with_value k (record { document = d; beside = b; revision = v.revision + 1 }) v.objects
          ((may.form, omega (arith, limit, may.revision)), may.size) can.0,
      all-drop (CanHoldEvent rules) _ (v.events ++ events_above rules.floor (event_of v (put k d b) ∷ []))
          (all-append (CanHoldEvent rules) v.events (events_above rules.floor (event_of v (put k d b) ∷ [])) can.1
          (all-told (CanHoldEvent rules) rules.floor (event_of v (put k d b)) ((may.form, omega (arith, limit, may.revision)), may.size))),
    )
    can_after v (delete k) can may =
        let there = found k v.objects can.0 may.object in (
          all-without_key k v.objects can.0,
          all-drop (CanHoldEvent rules) _ (v.events ++ events_above rules.floor (event_of v (delete k) ∷ []))
              (all-append (CanHoldEvent rules) v.events (events_above rules.floor (event_of v (delete k) ∷ [])) can.1
              (all-told (CanHoldEvent rules) rules.floor (event_of v (delete k)) ((there.0, omega (arith, limit, may.revision)), there.1))),
        )

    can_after_all : (v : View P) (ws : List (Write P)) → CanHold v → AllMayFollow rules v ws → CanHold (after_all rules v ws)
    can_after_all v [] can follow = can
    can_after_all v (w ∷ ws) can follow = can_after_all (after rules v w) ws (can_after v w can follow.0) follow.1

    -- What a history shows can be held, if the plans of its objects can.
    pub holdable : (plans : Key × Stored P → List ℕ) (h : List (Write P)) → AllFollow rules h → AllByRecursion (HasFewPlans plans) (view rules h).objects
        → IsHoldable plans rules (view rules h)
    holdable plans h follow few =
        let can = can_after_all empty h (tt, tt) follow in
        record {
          objects = can.0;
          few = few;
          ascends = objects_ascend rules empty h refl;
          events = can.1;
          numbered = (numbered rules h).numbered;
        }
