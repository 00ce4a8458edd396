-- What a reader was told that passes over the entries of objects which have a change.
use Rattle.std.specs.Prelude.{◌≡◌, ℕ, Bool, List, [], ◌∷◌, ◌++◌, Option, None, is_some, IsTrue, refl}
use Rattle.std.proofs.Common.{◌∙◌, subst}
use Rattle.std.specs.List.{AllByRecursion}
use Rattle.names.specs.Key.{Key, is_key, key_bytes}
use Rattle.names.specs.declared.format.Format.{Format}
use Rattle.names.specs.Format.{has_chunks}
use Rattle.objects.specs.Changes.{Changes}
use Rattle.objects.specs.Objects.{value_at}
use Rattle.pages.specs.Page.{Entry}
use Rattle.chunks.specs.Whole.{part_key}
use Rattle.snapshots.specs.declared.changed.ChangedReader.{ChangedReader}

all_append : (P : Entry → Type 0) (xs ys : List Entry) → AllByRecursion P xs → AllByRecursion P ys → AllByRecursion P (xs ++ ys)
all_append P [] ys a b = b
all_append P (x ∷ xs) ys a b = (a.0, all_append P xs ys a.1 b)

module _ {X : Type 0} where
  -- An object has a change of whose entry, cut or not, these bytes are a key.
  abbrev pub IsChanged : (cutting : Bool) → (changes : List (Key × Option X)) → (bytes : List ℕ) → Type 0
  IsChanged cutting changes bytes =
      (key : Key) (chunk : ℕ) → IsTrue (is_key key) → bytes ≡ part_key cutting (1 ∷ key_bytes key) chunk → IsTrue (is_some (value_at key changes))

  -- Such an object has none.
  abbrev pub IsUnchanged : (cutting : Bool) → (changes : List (Key × Option X)) → (bytes : List ℕ) → Type 0
  IsUnchanged cutting changes bytes =
      (key : Key) (chunk : ℕ) → IsTrue (is_key key) → bytes ≡ part_key cutting (1 ∷ key_bytes key) chunk → value_at key changes ≡ None

  abbrev pub AreChanged : (cutting : Bool) → (changes : List (Key × Option X)) → List Entry → Type 0
  AreChanged cutting changes entries = AllByRecursion (λ e. IsChanged cutting changes e.0) entries

  abbrev pub cuts_for : ChangedReader X → Bool
  cuts_for reader = has_chunks reader.format

  -- Between these two states it was told entries of objects that have changes, and its format and its changes stayed.
  pub record IsTold (old new : ChangedReader X) (entries : List Entry) : Type 0 where
    pub format : new.format ≡ old.format
    pub changes : new.changes.now ≡ old.changes.now
    pub changed : AreChanged (cuts_for old) old.changes.now.made entries

  -- It refuses the entry of an object that has none.
  abbrev pub Refuses : ChangedReader X → Entry → Type 0
  Refuses reader entry = IsUnchanged (cuts_for reader) reader.changes.now.made entry.0

  pub told_none : (reader : ChangedReader X) → IsTold reader reader []
  told_none reader = record { format = refl; changes = refl; changed = tt }

  pub told_then : (old mid new : ChangedReader X) (front back : List Entry) → IsTold old mid front → IsTold mid new back → IsTold old new (front ++ back)
  told_then old mid new front back first second = record {
    format = second.format ∙ first.format;
    changes = second.changes ∙ first.changes;
    changed =
        let Changed : Format → Changes X → Type 0 = λ format changes. AreChanged (has_chunks format) changes.made back in
        all_append (λ e. IsChanged (cuts_for old) old.changes.now.made e.0) front back first.changed
        (subst (λ (format : Format). Changed format old.changes.now) first.format
        (subst (λ (changes : Changes X). Changed mid.format changes) first.changes second.changed));
  }
