-- Entries as the pages of a format have them: in formats that cut, the values of objects and of events stand in chunks. Numbers are unsigned, the highest
-- byte first.
use Rattle.std.specs.Prelude.{◌≡◌, ◌<◌, ◌≤◌, ℕ, ◌*◌, ◌==◌, Bool, true, false, List, [], ◌∷◌, ◌++◌, length, map, take, drop, if◌then◌else◌, Option, Some, None}
use Rattle.std.specs.Int.{div_ceil}
use Rattle.std.specs.List.{flat_map, range_with_len, AllByRecursion}
use Rattle.byteorder.specs.Endian.{big_bytes}
use Rattle.names.specs.declared.format.Format.{Format}
use Rattle.names.specs.Format.{has_chunks}
use Rattle.pages.specs.Page.{Entry}
use Rattle.roots.specs.declared.root.Root.{Root}
use Rattle.checkpoint.specs.Pages.{HoldsEntries}

-- A chunk of a value: what stands in front of its number, and which chunk it is, from 0, in two bytes; under them 8000 bytes of the value, but
-- that the last chunk may have fewer.
abbrev pub chunk_entry : (stem value : List ℕ) → (chunk : ℕ) → Entry
chunk_entry stem value chunk = (stem ++ big_bytes 2 chunk, take 8000 (drop (8000 * chunk) value))

-- how many chunks a value has
abbrev pub count_of : (value : List ℕ) → ℕ
count_of value = div_ceil (length value) 8000

-- Each of the chunks.
abbrev pub chunks_of : (stem value : List ℕ) → List Entry
chunks_of stem value = map (chunk_entry stem value) (range_with_len 0 (div_ceil (length value) 8000))

-- What stands in front of the numbers: an object's key, which begins with 1, and a zero byte; an event's key, which begins with 3. The values of
-- other entries are not cut.
abbrev pub stem_of : (key : List ℕ) → Option (List ℕ)
stem_of [] = None
stem_of (mark ∷ rest) = if mark == 1 then Some ((mark ∷ rest) ++ 0 ∷ []) else (if mark == 3 then Some (mark ∷ rest) else None)

abbrev pub cut_by : Option (List ℕ) → Entry → List Entry
cut_by None e = e ∷ []
cut_by (Some stem) e = chunks_of stem e.1

abbrev pub cut_entry : Entry → List Entry
cut_entry e = cut_by (stem_of e.0) e

-- each entry in its chunks
abbrev pub cuts : List Entry → List Entry
cuts es = flat_map cut_entry es

abbrev pub cut_if : Bool → List Entry → List Entry
cut_if false es = es
cut_if true es = cuts es

-- Entries, as the pages of a format have them.
abbrev pub cut : Format → List Entry → List Entry
cut format es = cut_if (has_chunks format) es

-- ---- which entries can be cut and joined again

-- A value that is cut is not empty, and two bytes number its chunks.
abbrev pub HasChunks : Option (List ℕ) → Entry → Type 0
HasChunks None e = Unit {0}
HasChunks (Some stem) e = (0 < length e.1) × (length e.1 ≤ 8000 * 65536)

abbrev pub IsCuttable : Entry → Type 0
IsCuttable e = HasChunks (stem_of e.0) e

abbrev pub AreCuttable : List Entry → Type 0
AreCuttable es = AllByRecursion IsCuttable es

-- The key is that of a chunk after the first.
pub record IsLater (key : List ℕ) : Type 0 where
  pub whole : List ℕ
  pub stem : List ℕ
  pub chunk : ℕ
  pub is_stem : stem_of whole ≡ Some stem
  pub some : 0 < chunk
  pub few : chunk < 65536
  pub is : key ≡ stem ++ big_bytes 2 chunk

-- The first of these entries, if there is one, begins an entry.
abbrev pub BeginsWhole : List Entry → Type 0
BeginsWhole [] = Unit {0}
BeginsWhole (e ∷ es) = IsLater e.0 → ⊥

-- ---- what pages hold

-- The pages of a root hold these entries, as its format has them.
pub record HoldsWhole (content : List ℕ) (root : Root) (entries : List Entry) : Type 0 where
  pub can : AreCuttable entries
  pub pages : HoldsEntries content root (cut root.label.format entries)

-- ---- a law

-- At most one list of entries has these as a format has it.
abbrev pub AtMostOneList : Type 0
AtMostOneList = (format : Format) (xs ys : List Entry) → AreCuttable xs → AreCuttable ys → cut format xs ≡ cut format ys → xs ≡ ys
