-- What is kept of pages that are read in order.
use Rattle.std.specs.Prelude.{◌≡◌, List, [], ◌∷◌, ℕ, map}
use Rattle.std.specs.declared.alloc.Global.{Global}
use Rattle.std.specs.declared.vec.Vec.{Vec}
use Rattle.pages.specs.Page.{Entry}
use Rattle.checkpoint.specs.declared.index.Index.{Index}
use Rattle.checkpoint.specs.Pages.{joined, IsIndex}

-- The last key of entries, or no bytes where there are none.
abbrev pub last_key : List Entry → List ℕ
last_key [] = []
last_key (entry ∷ []) = entry.0
last_key (entry ∷ next ∷ entries) = last_key (next ∷ entries)

-- The first keys of pages, as they lie in memory.
abbrev pub keys_of : List (Vec ℕ Global) → List (List ℕ)
keys_of keys = map (λ key. key.items) keys

-- The index has these pages' first keys, and the last key of all.
pub record IsIndexed (index : Index) (pages : List (List Entry)) : Type 0 where
  pub firsts : IsIndex (keys_of index.first_keys.items) pages
  pub ends : index.last_key.items ≡ last_key (joined pages)
