-- What becomes of a reader of entries.
use Rattle.std.specs.Prelude.{◌≡◌, Bool, true, false, List, ◌∷◌, ◌++◌}
use Rattle.pages.specs.Page.{Entry}

-- One of the entries was refused, by a reader that had been told those before it and no others.
pub record IsRefused {R : Type 0} (told : R → R → List Entry → Type 0) (refuses : R → Entry → Type 0) (start : R) (entries : List Entry) : Type 0 where
  pub before : List Entry
  pub entry : Entry
  pub after : List Entry
  pub are : entries ≡ before ++ entry ∷ after
  pub reader : R
  pub was_told : told start reader before
  pub refused : refuses reader entry

-- The reader was told all the entries, or has refused one of them.
abbrev pub Heard : {R : Type 0} → (R → R → List Entry → Type 0) → (R → Entry → Type 0) → R → R → List Entry → Bool → Type 0
Heard told refuses start now entries true = IsRefused told refuses start entries
Heard told refuses start now entries false = told start now entries
