-- What of a checkpoint's entries is held in memory from an opening on.
use Rattle.std.specs.Prelude.{◌≡◌, ℕ, ◌+◌, ◌<◌, ◌^◌, Bool, true, false, not, ◌||◌, List, [], ◌∷◌, ◌++◌, length}
use Rattle.std.proofs.Common.{cond, refl, sym, ap, ◌∙◌, append_assoc, length-append, arith}
use Rattle.std.proofs.lemmas.List.{append-nil}
use Rattle.std.specs.List.{filter}
use Rattle.names.specs.Key.{key_bytes}
use Rattle.histories.specs.View.{View}
use Rattle.pages.specs.Page.{Entry}
use Rattle.records.specs.Entries.{is_object_key}
use Rattle.snapshots.specs.declared.kept_entries.KeptEntries.{KeptEntries}

-- An entry is kept if it is no object's, or that of one that is chosen.
abbrev pub is_kept : (chosen : List ℕ → Bool) → List ℕ → Bool
is_kept chosen key = not (is_object_key key) || chosen key

abbrev pub kept_of : (chosen : List ℕ → Bool) → List Entry → List Entry
kept_of chosen entries = filter (λ e. is_kept chosen e.0) entries

-- how many of the entries are objects'
abbrev pub objects_among : List Entry → ℕ
objects_among entries = length (filter (λ e. is_object_key e.0) entries)

-- the objects that are chosen, by the keys of their entries
abbrev pub chosen_of : {P : Type 0} → (chosen : List ℕ → Bool) → View P → View P
chosen_of chosen v = record { objects = filter (λ o. chosen (1 ∷ key_bytes o.0)) v.objects; revision = v.revision; events = v.events }

-- Between these two states it was told these entries: it has kept those of them that are kept, and counted the objects, as far as a number of 64 bits counts.
pub record HasKept {C : Type 0} (chosen : C → List ℕ → Bool) (old new : KeptEntries C) (entries : List Entry) : Type 0 where
  pub choice : new.choice.now ≡ old.choice.now
  pub kept : new.kept.items ≡ old.kept.items ++ kept_of (chosen old.choice.now) entries
  pub counted : old.objects + objects_among entries < 2 ^ 64 → new.objects ≡ old.objects + objects_among entries

filter-append : {Y : Type 0} (p : Y → Bool) (xs ys : List Y) → filter p (xs ++ ys) ≡ filter p xs ++ filter p ys
filter-append p [] ys = refl
filter-append p (x ∷ xs) ys =
    elim (p x) as (λ b. cond b (x ∷ filter p (xs ++ ys)) (filter p (xs ++ ys)) ≡ cond b (x ∷ filter p xs) (filter p xs) ++ filter p ys) [
      | true ↦ ap (λ (rest : List _). x ∷ rest) (filter-append p xs ys)
      | false ↦ filter-append p xs ys
    ]

pub kept-append : (chosen : List ℕ → Bool) (xs ys : List Entry) → kept_of chosen (xs ++ ys) ≡ kept_of chosen xs ++ kept_of chosen ys
kept-append chosen xs ys = filter-append (λ (e : Entry). is_kept chosen e.0) xs ys

pub objects-append : (xs ys : List Entry) → objects_among (xs ++ ys) ≡ objects_among xs + objects_among ys
objects-append xs ys = ap length (filter-append (λ (e : Entry). is_object_key e.0) xs ys) ∙ length-append (filter (λ e. is_object_key e.0) xs) (filter (λ e. is_object_key e.0) ys)

module _ {C : Type 0} (chosen : C → List ℕ → Bool) where
  pub told_none : (kept_entries : KeptEntries C) → HasKept chosen kept_entries kept_entries []
  told_none kept_entries = record { choice = refl; kept = sym (append-nil kept_entries.kept.items); counted = λ few. omega arith }

  pub told_then : (old mid new : KeptEntries C) (front back : List Entry) → HasKept chosen old mid front → HasKept chosen mid new back → HasKept chosen old new (front ++ back)
  told_then old mid new front back first second = record {
    choice = second.choice ∙ first.choice;
    kept =
        second.kept
        ∙ (λ i. first.kept i ++ kept_of (chosen (first.choice i)) back)
        ∙ append_assoc old.kept.items (kept_of (chosen old.choice.now) front) (kept_of (chosen old.choice.now) back)
        ∙ ap (λ (es : List Entry). old.kept.items ++ es) (sym (kept-append (chosen old.choice.now) front back));
    counted = λ few.
        let more = objects-append front back in
        let before : mid.objects ≡ old.objects + objects_among front = first.counted (omega (arith, few, more)) in
        let now : new.objects ≡ mid.objects + objects_among back = second.counted (omega (arith, few, more, before)) in
        omega (arith, before, now, more);
  }
