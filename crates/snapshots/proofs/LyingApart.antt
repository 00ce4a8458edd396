-- What a checkpoint keeps beside the objects that lie below, chosen by the keys of entries.
use Rattle.std.proofs.Common.{◌≡◌, ◌∙◌, sym, ap, refl, ℕ, Bool, true, false, cond, not, List, [], ◌∷◌}
use Rattle.std.specs.List.{AllByRecursion, filter}
use Rattle.std.specs.Option.{option_map_or}
use Rattle.std.specs.Prelude.{Option}
use Rattle.names.specs.declared.resource.Resource.{Resource}
use Rattle.names.specs.Key.{Key, key_bytes}
use Rattle.names.specs.Resource.{numbered}
use Rattle.names.proofs.KeyOrder.{numbered-number}
use Rattle.histories.specs.declared.stored.Stored.{Stored}
use Rattle.histories.specs.View.{View}
use Rattle.snapshots.specs.KeptEntries.{chosen_of}
use Rattle.decoded.specs.Decoded.{Decoded}
use Rattle.snapshots.specs.Keeping.{held_entries}
use Rattle.snapshots.specs.LyingBelow.{apart_of, AreChosen}

module _ (lies : Resource → Bool) where
  -- the key of the entry of an object that does not lie below: its second byte is the number of the resource
  abbrev pub is_apart : List ℕ → Bool
  is_apart [] = false
  is_apart (mark ∷ []) = false
  is_apart (mark ∷ number ∷ rest) = option_map_or (λ r. not (lies r)) (numbered number) false

  apart_key : (k : Key) → is_apart (1 ∷ key_bytes k) ≡ not (lies k.resource)
  apart_key k = ap (λ (r : Option Resource). option_map_or (λ r. not (lies r)) r false) (numbered-number k.resource)

  same_objects : (os : List (Key × Stored Decoded)) → filter (λ o. not (lies o.0.resource)) os ≡ filter (λ o. is_apart (1 ∷ key_bytes o.0)) os
  same_objects [] = refl
  same_objects (o ∷ os) = λ i. cond (sym (apart_key o.0) i) (o ∷ same_objects os i) (same_objects os i)

  -- What does not lie below is the chosen part of a view,
  pub apart_is_chosen : (held : View Decoded) → held_entries (apart_of lies held) ≡ held_entries (chosen_of is_apart held)
  apart_is_chosen held = λ i. held_entries (record { objects = same_objects held.objects i; revision = held.revision; events = held.events })

  each_chosen : (os : List (Key × Stored Decoded)) → AllByRecursion (λ o. lies o.0.resource ≡ false → is_apart (1 ∷ key_bytes o.0) ≡ true) os
  each_chosen [] = tt
  each_chosen (o ∷ os) = (λ apart. apart_key o.0 ∙ ap not apart, each_chosen os)

  -- which has each object that does not.
  pub all_apart : (held : View Decoded) → AreChosen lies is_apart held
  all_apart held = each_chosen held.objects
