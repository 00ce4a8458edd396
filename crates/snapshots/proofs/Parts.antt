-- The chosen part of a view that a checkpoint may keep.
use Rattle.std.proofs.Common.{arith, refl, ◌+◌, ◌≤◌, Bool, true, false, cond, ℕ, List, [], ◌∷◌, length}
use Rattle.std.specs.List.{AllByRecursion, filter}
use Rattle.jsondoc.specs.Json.{text}
use Rattle.names.specs.declared.format.Format.TheVariants.{First}
use Rattle.names.specs.declared.format.Rules.{Rules}
use Rattle.names.specs.Key.{Key, key_bytes}
use Rattle.window.specs.declared.event.Event.{Event}
use Rattle.documents.specs.Document.{Document}
use Rattle.histories.specs.View.{View}
use Rattle.records.specs.Holding.{IsStorableEvent, CanHoldObject, CanHoldEvent, HasFewPlans, IsHoldable}
use Rattle.records.specs.EntryLaws.{bytes_beside}
use Rattle.snapshots.specs.KeptEntries.{chosen_of}
use Rattle.decoded.specs.Decoded.{Decoded}
use Rattle.snapshots.specs.Keeping.{held_plans, IsHeldObject, HasLastEvents, IsHeld}
use Rattle.snapshots.specs.Restoring.{view_in_bytes, IsSpelled, AreHeldOf}
use Rattle.snapshots.proofs.LyingBelow.{sorted_filter}
use Rattle.snapshots.proofs.Held.{Object}
use Rattle.snapshots.proofs.Histories.{only_policies}
use Rattle.snapshots.proofs.InBytes.{holdable_in_bytes}

abbrev Told : Type 0
Told = Event Document

all_filter : {A : Type 0} (Q : A → Type 0) (p : A → Bool) (xs : List A) → AllByRecursion Q xs → AllByRecursion Q (filter p xs)
all_filter Q p [] all = tt
all_filter Q p (x ∷ xs) all =
    elim (p x) as (λ b. AllByRecursion Q (cond b (x ∷ filter p xs) (filter p xs))) [
      | true ↦ (all.0, all_filter Q p xs all.1)
      | false ↦ all_filter Q p xs all.1
    ]

-- of a view that may be held the chosen part may be
pub part_held : (rules : Rules) (chosen : List ℕ → Bool) (held : View Decoded) → IsHeld rules held → IsHeld rules (chosen_of chosen held)
part_held rules chosen held is = record {
  ascends = sorted_filter (λ (k : Key). chosen (1 ∷ key_bytes k)) held.objects is.ascends;
  objects = all_filter IsHeldObject (λ o. chosen (1 ∷ key_bytes o.0)) held.objects is.objects;
  events = is.events;
  numbered = is.numbered;
  last = record { begun = is.last.begun; events = is.last.events };
}

-- ---- it has entries: each text is within some limit

abbrev stored_texts : List Object → ℕ
stored_texts [] = 0
stored_texts (o ∷ os) = length (text o.1.document.json) + stored_texts os

abbrev told_texts : List Told → ℕ
told_texts [] = 0
told_texts (e ∷ es) = length (text e.document.json) + told_texts es

-- numbers by which all its texts may be held
abbrev pub wide : View Decoded → Rules
wide held = record {
  format = First;
  window_events = 0;
  text_limit_bytes = stored_texts held.objects + told_texts held.events;
  object_limit = 0;
  greatest_revision = 0;
  floor = 0;
}

can_objects : (rules : Rules) (os : List Object) → AllByRecursion IsHeldObject os → stored_texts os ≤ rules.text_limit_bytes → AllByRecursion (CanHoldObject rules) os
can_objects rules [] all short = tt
can_objects rules (o ∷ os) all short = ((all.0.storable, omega (arith, short)), can_objects rules os all.1 (omega (arith, short)))

can_events : (rules : Rules) (es : List Told) → AllByRecursion IsStorableEvent es → told_texts es ≤ rules.text_limit_bytes → AllByRecursion (CanHoldEvent rules) es
can_events rules [] all short = tt
can_events rules (e ∷ es) all short = ((all.0, omega (arith, short)), can_events rules es all.1 (omega (arith, short)))

few_plans : (os : List Object) → AllByRecursion IsHeldObject os → AllByRecursion (HasFewPlans held_plans) os
few_plans [] all = tt
few_plans (o ∷ os) all = ((only_policies o.0.resource o.1.beside.plans, all.0.few), few_plans os all.1)

pub holdable_held : (rules : Rules) (held : View Decoded) → IsHeld rules held → IsHoldable held_plans (wide held) held
holdable_held rules held is = record {
  objects = can_objects (wide held) held.objects is.objects (omega arith);
  few = few_plans held.objects is.objects;
  ascends = is.ascends;
  events = can_events (wide held) held.events is.events (omega arith);
  numbered = is.numbered;
}

pub held_holdable : (rules : Rules) (held : View Decoded) → IsHeld rules held → IsHoldable bytes_beside (wide held) (view_in_bytes held_plans held)
held_holdable rules held is = holdable_in_bytes held_plans (wide held) held (holdable_held rules held is)

-- and its events are the last ones
pub held_last : (rules : Rules) (held : View Decoded) → IsHeld rules held → HasLastEvents rules (view_in_bytes held_plans held)
held_last rules held is = record { begun = is.last.begun; events = is.last.events }

all_spelled : (os : List Object) → AllByRecursion IsHeldObject os → AllByRecursion IsSpelled os
all_spelled [] all = tt
all_spelled (o ∷ os) all = (record { plans = all.0.plans; beside = all.0.beside }, all_spelled os all.1)

pub objects_held : (rules : Rules) (held : View Decoded) → IsHeld rules held → AreHeldOf held.objects (view_in_bytes held_plans held).objects
objects_held rules held is = record { are = refl; spelled = all_spelled held.objects is.objects; ascends = is.ascends }
