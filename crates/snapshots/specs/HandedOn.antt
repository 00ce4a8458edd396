-- The cells of objects, as they are told, and what of a view is held in memory.
use Rattle.std.specs.Prelude.{◌≡◌, ◌≢◌, ℕ, Bool, true, not, List, [], ◌∷◌, ◌++◌, map, IsTrue, refl}
use Rattle.std.proofs.Common.{sym, ap, ◌∙◌, append_assoc}
use Rattle.std.proofs.lemmas.List.{append-nil, map-append}
use Rattle.std.specs.List.{AllByRecursion, filter}
use Rattle.names.specs.declared.resource.Resource.{Resource}
use Rattle.names.specs.declared.format.Format.{Format}
use Rattle.names.specs.Format.{has_chunks}
use Rattle.names.specs.Key.{Key, is_key, key_bytes}
use Rattle.histories.specs.declared.stored.Stored.{Stored}
use Rattle.expressions.specs.Specification.{Plans, plans_bytes}
use Rattle.pages.specs.Page.{Entry}
use Rattle.shelf.specs.Prefix.{beginning}
use Rattle.chunks.specs.Chunks.{cut_if}
use Rattle.handing.specs.Cells.{cells_in}
use Rattle.snapshots.specs.declared.cached_object.CachedObject.{CachedObject}
use Rattle.snapshots.specs.declared.cells.CellReader.{CellReader}
use Rattle.snapshots.specs.ObjectCache.{cell_of}

-- the entry of a cell: under 1 and the bytes of its object's key
abbrev pub cell_entry : Key × List ℕ → Entry
cell_entry cell = (1 ∷ key_bytes cell.0, cell.1)

-- Each stands under the key of an object.
abbrev pub HaveKeys : List (Key × List ℕ) → Type 0
HaveKeys cells = AllByRecursion (λ c. IsTrue (is_key c.0)) cells

-- what stands under the keys of objects
abbrev pub cells_of : List (Key × CachedObject) → List (Key × List ℕ)
cells_of objects = map (λ o. (o.0, cell_of o.1)) objects

-- The entries are what those of these cells are cut to, and no others.
pub record AreCutCells (cutting : Bool) (entries : List Entry) (cells : List (Key × List ℕ)) : Type 0 where
  pub are : entries ≡ cut_if cutting (map cell_entry cells)
  pub keys : HaveKeys cells

-- Those of the entries that have an object's key are what those of cells are cut to, as a format has them, and these are the cells of the objects that are
-- not held in memory.
pub record AreCellsBelow (held : Resource → Bool) (format : Format) (entries : List Entry) (cells : List (Key × List ℕ)) : Type 0 where
  pub all : List (Key × List ℕ)
  pub cut_are : AreCutCells (has_chunks format) (beginning (1 ∷ []) entries) all
  pub below : cells ≡ filter (λ c. not (held c.0.resource)) all

-- ---- as they are told

-- Between these two states it was told the entries of cells, and has those then.
pub record IsTold (old new : CellReader) (entries : List Entry) : Type 0 where
  pub cells : List (Key × List ℕ)
  pub added : cells_in new.cells.items ≡ cells_in old.cells.items ++ cells
  pub are : map cell_entry cells ≡ entries
  pub keys : HaveKeys cells

-- It refuses an entry whose key is that of no object's entry.
abbrev pub Refuses : CellReader → Entry → Type 0
Refuses reader entry = (key : Key) → IsTrue (is_key key) → 1 ∷ key_bytes key ≢ entry.0

pub told_none : (reader : CellReader) → IsTold reader reader []
told_none reader = record { cells = []; added = sym (append-nil (cells_in reader.cells.items)); are = refl; keys = tt }

pub all_append : (xs ys : List (Key × List ℕ)) → HaveKeys xs → HaveKeys ys → HaveKeys (xs ++ ys)
all_append [] ys a b = b
all_append (x ∷ xs) ys a b = (a.0, all_append xs ys a.1 b)

pub told_then : (old mid new : CellReader) (front back : List Entry) → IsTold old mid front → IsTold mid new back → IsTold old new (front ++ back)
told_then old mid new front back first second = record {
  cells = first.cells ++ second.cells;
  added =
      second.added ∙ ap (λ (cells : List (Key × List ℕ)). cells ++ second.cells) first.added
      ∙ append_assoc (cells_in old.cells.items) first.cells second.cells;
  are =
      map-append cell_entry first.cells second.cells ∙ ap (λ (entries : List Entry). entries ++ map cell_entry second.cells) first.are
      ∙ ap (λ (entries : List Entry). front ++ entries) second.are;
  keys = all_append first.cells second.cells first.keys second.keys;
}

-- ---- what lies below

module _ {P : Type 0} (lies : Resource → Bool) where
  -- Each of these objects is one that lies below.
  abbrev pub AllLie : List (Key × Stored P) → Type 0
  AllLie base = AllByRecursion (λ o. lies o.0.resource ≡ true) base

-- An object that lies below has no plans.
abbrev pub LieWithoutPlans : (lies : Resource → Bool) → Type 0
LieWithoutPlans lies = (r : Resource) (plans : Plans) → lies r ≡ true → plans_bytes r plans ≡ []
