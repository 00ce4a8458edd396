-- What a `KeptEntries` keeps of the entries that it is told, and what it counts.
use Rattle.std.proofs.Common.{◌≡◌, ◌≢◌, ℕ, ◌+◌, zero, suc, Bool, true, false, cond, List, [], ◌∷◌, ◌++◌, map, length, refl, ap, ◌∙◌, arith}
use Rattle.std.specs.Int.{div_ceil}
use Rattle.std.specs.List.{AllByRecursion, filter, range_with_len}
use Rattle.names.specs.Key.{Key, key_bytes}
use Rattle.window.specs.declared.event.Event.{Event}
use Rattle.documents.specs.Document.{Document}
use Rattle.histories.specs.declared.stored.Stored.{Stored}
use Rattle.histories.specs.View.{View}
use Rattle.pages.specs.Page.{Entry}
use Rattle.records.specs.Entries.{plan_entry, plan_entries, event_entry, stored_entry, plans_among, entries_of}
use Rattle.snapshots.specs.KeptEntries.{kept_of, objects_among, chosen_of, kept-append, objects-append}

-- ---- the entries of a view

kept_events : (chosen : List ℕ → Bool) (es : List (Event Document)) → kept_of chosen (map event_entry es) ≡ map event_entry es
kept_events chosen [] = refl
kept_events chosen (e ∷ es) = ap (λ (rest : List Entry). event_entry e ∷ rest) (kept_events chosen es)

kept_pieces : (chosen : List ℕ → Bool) (k : Key) (bytes : List ℕ) (from count : ℕ)
    → kept_of chosen (map (plan_entry k bytes) (range_with_len from count)) ≡ map (plan_entry k bytes) (range_with_len from count)
kept_pieces chosen k bytes from zero = refl
kept_pieces chosen k bytes from (suc count) = ap (λ (rest : List Entry). plan_entry k bytes from ∷ rest) (kept_pieces chosen k bytes (from + 1) count)

no_events : (es : List (Event Document)) → objects_among (map event_entry es) ≡ 0
no_events [] = refl
no_events (e ∷ es) = no_events es

no_pieces : (k : Key) (bytes : List ℕ) (from count : ℕ) → objects_among (map (plan_entry k bytes) (range_with_len from count)) ≡ 0
no_pieces k bytes from zero = refl
no_pieces k bytes from (suc count) = no_pieces k bytes (from + 1) count

module _ {P : Type 0} (plans : Key × Stored P → List ℕ) where
  kept_plans : (chosen : List ℕ → Bool) (os : List (Key × Stored P)) → kept_of chosen (plans_among plans os) ≡ plans_among plans os
  kept_plans chosen [] = refl
  kept_plans chosen (o ∷ os) =
      kept-append chosen (plan_entries o.0 (plans o)) (plans_among plans os)
      ∙ (λ i. kept_pieces chosen o.0 (plans o) 0 (div_ceil (length (plans o)) 16384) i ++ kept_plans chosen os i)

  no_plans : (os : List (Key × Stored P)) → objects_among (plans_among plans os) ≡ 0
  no_plans [] = refl
  no_plans (o ∷ os) =
      let parts = objects-append (plan_entries o.0 (plans o)) (plans_among plans os) in
      let here = no_pieces o.0 (plans o) 0 (div_ceil (length (plans o)) 16384) in
      let rest = no_plans os in
      omega (arith, parts, here, rest)

  kept_objects : (chosen : List ℕ → Bool) (os : List (Key × Stored P)) → kept_of chosen (map stored_entry os) ≡ map stored_entry (filter (λ o. chosen (1 ∷ key_bytes o.0)) os)
  kept_objects chosen [] = refl
  kept_objects chosen (o ∷ os) =
      elim (chosen (1 ∷ key_bytes o.0))
      as (λ b. cond b (stored_entry o ∷ kept_of chosen (map stored_entry os)) (kept_of chosen (map stored_entry os))
      ≡ map stored_entry (cond b (o ∷ filter (λ o. chosen (1 ∷ key_bytes o.0)) os) (filter (λ o. chosen (1 ∷ key_bytes o.0)) os))) [
        | true ↦ ap (λ (rest : List Entry). stored_entry o ∷ rest) (kept_objects chosen os)
        | false ↦ kept_objects chosen os
      ]

  all_objects : (os : List (Key × Stored P)) → objects_among (map stored_entry os) ≡ length os
  all_objects [] = refl
  all_objects (o ∷ os) = ap suc (all_objects os)

  -- of what has plans all is chosen
  abbrev PlansAreChosen : (List ℕ → Bool) → List (Key × Stored P) → Type 0
  PlansAreChosen chosen os = AllByRecursion (λ o. plans o ≢ [] → chosen (1 ∷ key_bytes o.0) ≡ true) os

  none_of : (k : Key) (bytes : List ℕ) (b : Bool) → b ≡ false → (bytes ≢ [] → b ≡ true) → plan_entries k bytes ≡ []
  none_of k [] b is some = refl
  none_of k (x ∷ xs) b is some = absurd (no_both b is (some (λ e. cc)))
    where
      no_both : (b : Bool) → b ≡ false → b ≡ true → ⊥
      no_both b is_not is_so = cc

  same_plans : (chosen : List ℕ → Bool) (os : List (Key × Stored P)) → PlansAreChosen chosen os
      → plans_among plans os ≡ plans_among plans (filter (λ o. chosen (1 ∷ key_bytes o.0)) os)
  same_plans chosen [] all = refl
  same_plans chosen (o ∷ os) all =
      elim (chosen (1 ∷ key_bytes o.0))
      as (λ b. chosen (1 ∷ key_bytes o.0) ≡ b → plan_entries o.0 (plans o) ++ plans_among plans os
      ≡ plans_among plans (cond b (o ∷ filter (λ o. chosen (1 ∷ key_bytes o.0)) os) (filter (λ o. chosen (1 ∷ key_bytes o.0)) os))) [
        | true ↦ λ is. ap (λ (rest : List Entry). plan_entries o.0 (plans o) ++ rest) (same_plans chosen os all.1)
        | false ↦ λ is. (λ i. none_of o.0 (plans o) (chosen (1 ∷ key_bytes o.0)) is all.0 i ++ same_plans chosen os all.1 i)
      ] refl

  -- What is kept of a view's entries are the entries of what is chosen of it.
  pub kept_of_view : (chosen : List ℕ → Bool) (v : View P) → PlansAreChosen chosen v.objects → kept_of chosen (entries_of plans v) ≡ entries_of plans (chosen_of chosen v)
  kept_of_view chosen v all =
      let behind : List Entry = plans_among plans v.objects ++ map event_entry v.events in
      kept-append chosen (map stored_entry v.objects) behind
      ∙ (λ i. kept_objects chosen v.objects i ++ kept-append chosen (plans_among plans v.objects) (map event_entry v.events) i)
      ∙ (λ i. map stored_entry (filter (λ o. chosen (1 ∷ key_bytes o.0)) v.objects) ++ (kept_plans chosen v.objects i ++ kept_events chosen v.events i))
      ∙ (λ i. map stored_entry (filter (λ o. chosen (1 ∷ key_bytes o.0)) v.objects) ++ (same_plans chosen v.objects all i ++ map event_entry v.events))

  -- And its objects are counted.
  pub objects_of_view : (v : View P) → objects_among (entries_of plans v) ≡ length v.objects
  objects_of_view v =
      let front = objects-append (map stored_entry v.objects) (plans_among plans v.objects ++ map event_entry v.events) in
      let middle = objects-append (plans_among plans v.objects) (map event_entry v.events) in
      let objects = all_objects v.objects in
      let planned = no_plans v.objects in
      let told = no_events v.events in
      omega (arith, front, middle, objects, planned, told)
