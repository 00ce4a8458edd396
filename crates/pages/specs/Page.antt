-- A page of 32768 bytes: its mark, the number of its cells, a slot for each, free bytes, and the cells from its end backwards.
use Rattle.std.specs.Prelude.{◌≡◌, ◌<◌, ◌≤◌, ◌+◌, ◌-◌, ◌*◌, ℕ, zero, suc, List, length, map, take, drop, slice_index, codes}
use Rattle.std.specs.Cmp.Lexicographic.{slice_cmp}
use Rattle.std.specs.List.{range_with_len, sum_by}
use Rattle.std.specs.Ordering.{nat_cmp}
use Rattle.std.specs.declared.cmp.Ordering.{Ordering}
use Rattle.std.specs.declared.cmp.Ordering.TheVariants.{Less}
use Rattle.byteorder.specs.Endian.{big_from}

-- A key with what stands under it.
abbrev pub Entry : Type 0
Entry = List ℕ × List ℕ

-- The order of keys: that of their first bytes that differ, and a key before those that go on.
abbrev pub bytes_cmp : List ℕ → List ℕ → Ordering
bytes_cmp = slice_cmp nat_cmp

-- The number in the two bytes at a place, the highest first.
unfoldable pub number_at : ℕ → List ℕ → ℕ
number_at at bytes = big_from at 2 bytes

-- The number of cells.
abbrev pub count : List ℕ → ℕ
count bytes = number_at 4 bytes

-- The slot of a cell: where it begins, and how long it is.
abbrev pub offset : ℕ → List ℕ → ℕ
offset i bytes = number_at (8 + 4 * i) bytes

abbrev pub size : ℕ → List ℕ → ℕ
size i bytes = number_at (10 + 4 * i) bytes

-- Cell 0 ends with the page, each next cell where the one before begins.
abbrev pub cell_end : ℕ → List ℕ → ℕ
cell_end zero bytes = 32768
cell_end (suc i) bytes = offset i bytes

-- A cell is the length of its key in two bytes, the key, and what stands under it.
abbrev pub key_size : ℕ → List ℕ → ℕ
key_size i bytes = number_at (offset i bytes) bytes

abbrev pub key_at : ℕ → List ℕ → List ℕ
key_at i bytes = take (key_size i bytes) (drop (offset i bytes + 2) bytes)

abbrev pub value_at : ℕ → List ℕ → List ℕ
value_at i bytes = take (size i bytes - 2 - key_size i bytes) (drop (offset i bytes + 2 + key_size i bytes) bytes)

-- A page's size and mark.
pub record HasMark (bytes : List ℕ) : Type 0 where
  pub whole : length bytes ≡ 32768
  pub mark : take 4 bytes ≡ codes "PAGE"

-- A slot has a cell that ends where it is to, behind all slots.
pub record IsSlot (bytes : List ℕ) (i : ℕ) : Type 0 where
  pub ends : offset i bytes + size i bytes ≡ cell_end i bytes
  pub behind : 8 + 4 * count bytes ≤ offset i bytes

-- There are cells, the two bytes behind their number are zero, and each slot has its cell.
pub record HasSlots (bytes : List ℕ) : Type 0 where
  pub some : 1 ≤ count bytes
  pub zeros : number_at 6 bytes ≡ 0
  pub each : (i : ℕ) → i < count bytes → IsSlot bytes i

-- Each cell has room for its key.
abbrev pub HasCells : List ℕ → Type 0
HasCells bytes = (i : ℕ) → i < count bytes → 2 + key_size i bytes ≤ size i bytes

-- The keys ascend, and none is there twice.
abbrev pub HasOrder : List ℕ → Type 0
HasOrder bytes = (i : ℕ) → i + 1 < count bytes → bytes_cmp (key_at i bytes) (key_at (i + 1) bytes) ≡ Less

-- The bytes between the slots and the last cell are zero.
abbrev pub HasFreeZeros : List ℕ → Type 0
HasFreeZeros bytes = (k : ℕ) → 8 + 4 * count bytes ≤ k → k < cell_end (count bytes) bytes → slice_index bytes k ≡ 0

pub record IsSound (bytes : List ℕ) : Type 0 where
  pub mark : HasMark bytes
  pub slots : HasSlots bytes
  pub cells : HasCells bytes
  pub order : HasOrder bytes
  pub free : HasFreeZeros bytes

-- The cells, from the first slot on.
abbrev pub entry_at : List ℕ → ℕ → Entry
entry_at bytes i = (key_at i bytes, value_at i bytes)

unfoldable pub entries_in : List ℕ → List Entry
entries_in bytes = map (entry_at bytes) (range_with_len 0 (count bytes))

-- The bytes are a page, and stand for these entries.
pub record SoundPage (bytes : List ℕ) (entries : List Entry) : Type 0 where
  pub sound : IsSound bytes
  pub are : entries_in bytes ≡ entries

-- The bytes of a cell, and those that a page with these cells needs: 8, a slot of 4 for each, and the cells.
abbrev pub cell_size : Entry → ℕ
cell_size entry = 2 + length entry.0 + length entry.1

abbrev pub room_of : List Entry → ℕ
room_of entries = 8 + 4 * length entries + sum_by cell_size entries
