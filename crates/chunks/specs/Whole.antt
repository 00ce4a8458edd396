-- Entries in the pages of a shelf, and the keys under which they begin there.
use Rattle.std.specs.Prelude.{◌≡◌, ℕ, Bool, true, false, List, ◌++◌, Option, Some, None}
use Rattle.byteorder.specs.Endian.{big_bytes}
use Rattle.device.specs.Disk.{Disk}
use Rattle.pages.specs.Page.{Entry}
use Rattle.shelf.specs.declared.shelf.Shelf.{Shelf}
use Rattle.shelf.specs.Prefix.{begins}
use Rattle.shelf.specs.Shelf.{root_of, Shelves}
use Rattle.names.specs.Format.{has_chunks}
use Rattle.chunks.specs.Chunks.{stem_of, cut, AreCuttable}

abbrev pub key_by : Option (List ℕ) → (key : List ℕ) → (chunk : ℕ) → List ℕ
key_by None key chunk = key
key_by (Some stem) key chunk = stem ++ big_bytes 2 chunk

-- the key of a chunk of the entry with this key; the key itself, where its value is not cut
abbrev pub chunk_key : (key : List ℕ) → (chunk : ℕ) → List ℕ
chunk_key key chunk = key_by (stem_of key) key chunk

-- the key under which an entry with this key stands, as a format has it: of each of its chunks, where it is cut
abbrev pub part_key : Bool → (key : List ℕ) → (chunk : ℕ) → List ℕ
part_key false key chunk = key
part_key true key chunk = chunk_key key chunk

-- the key under which the entry with this key begins
abbrev pub first_key : Bool → (key : List ℕ) → List ℕ
first_key false key = key
first_key true key = chunk_key key 0

-- whether the root of a shelf is of a format that cuts
abbrev pub cuts_of : Shelf → Bool
cuts_of shelf = has_chunks (root_of shelf).label.format

-- The pages of the shelf hold these entries on the device, as the format of its root has them.
pub record Wholes {D : Type 0} (disk : Disk D) (device : D) (shelf : Shelf) (entries : List Entry) : Type 0 where
  pub can : AreCuttable entries
  pub shelves : Shelves disk device shelf (cut (root_of shelf).label.format entries)

-- What was found was added to the value, if something was.
abbrev pub HasAdded : (found : Option (List ℕ)) → (old new : List ℕ) → (is_there : Bool) → Type 0
HasAdded found old new true = (cell : List ℕ) × (found ≡ Some cell) × (new ≡ old ++ cell)
HasAdded found old new false = (found ≡ None) × (new ≡ old)

-- The chunks of an entry begin with the prefix where the entry does.
abbrev pub BeginsAlike : (prefix : List ℕ) → Entry → Type 0
BeginsAlike prefix e = (stem : List ℕ) → stem_of e.0 ≡ Some stem → (n : ℕ) → begins prefix (stem ++ big_bytes 2 n) ≡ begins prefix e.0
