-- Histories: the writes that a store took, the first of them first. Beside each document stands something of the reader's: what its
-- expressions are to it, say.
use Rattle.std.specs.Prelude.{ℕ, ◌+◌, List, [], ◌∷◌, Bool, if◌then◌else◌, Option, Some, None}
use Rattle.std.specs.Ordering.{eq_by_cmp}
use Rattle.names.specs.Key.{Key, key_cmp}
use Rattle.documents.specs.Document.{Document}
use Rattle.histories.specs.declared.stored.Stored.{Stored}

pub data Write (P : Type 0) : Type 0 where
  put : Key → Document → (beside : P) → Write P
  delete : Key → Write P

abbrev pub same_key : Key → Key → Bool
same_key a b = eq_by_cmp key_cmp a b

module _ {P : Type 0} where
  -- what the write with this revision leaves at a key where found was
  abbrev pub left_by_one : Key → ℕ → Write P → Option (Stored P) → Option (Stored P)
  left_by_one k revision (put key d b) found = if same_key k key then Some (record { document = d; beside = b; revision = revision }) else found
  left_by_one k revision (delete key) found = if same_key k key then None else found

  -- what writes leave at a key where found was, if the first of them has this revision: the last write to the key decides
  abbrev pub left_by : Key → ℕ → List (Write P) → Option (Stored P) → Option (Stored P)
  left_by k revision [] found = found
  left_by k revision (w ∷ ws) found = left_by k (revision + 1) ws (left_by_one k revision w found)

  -- the object of a history at a key: a store is empty at revision 1, and each write takes the next revision
  abbrev pub object_at : List (Write P) → Key → Option (Stored P)
  object_at h k = left_by k 2 h None
